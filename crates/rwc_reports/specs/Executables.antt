-- What a binary leads to before it runs: a module that is valid and starts, or the first refusal; this project's own.
use Rattle.std.specs.Prelude.{◌≡◌, ℕ, List, ◌++◌, codes, decimal}
use Rattle.std.specs.declared.result.Result.{Result}
use Rattle.std.specs.declared.result.Result.TheVariants.{Ok, Err}
use Rattle.wasm_ast.specs.declared.modules.WModule.{WModule}
use Rattle.wasm_typing.specs.declared.rule.WRule.{WRule}
use Rattle.wasm_typing.specs.declared.rule.WRule.TheVariants as rule
use Rattle.wasm_typing.specs.Modules.{IsValid, FirstViolation, Violation}
use Rattle.wasm_execution.specs.Configurations.{Config}
use Rattle.wasm_execution.specs.Starts.{UnknownImport, SegmentOut, NoMain, Begins, start_of}
use Rattle.rw_io.specs.Files.{NamedFile}
use Rattle.rwc_reports.specs.Binaries.{BinaryDecodes}
use Rattle.rwc_reports.specs.Lines.{invalid_line, start_line}
use Rattle.rwc_reports.specs.Sources.{FileLoads}
use Rattle.rwc_reports.specs.Steps.{Refused, Onward}

-- the names of the rules of validation
abbrev pub validation_name : WRule → List ℕ
validation_name rule.TypeIndex = codes "TypeIndex"
validation_name rule.FuncIndex = codes "FuncIndex"
validation_name rule.TableIndex = codes "TableIndex"
validation_name rule.MemoryIndex = codes "MemoryIndex"
validation_name rule.GlobalIndex = codes "GlobalIndex"
validation_name rule.LocalIndex = codes "LocalIndex"
validation_name rule.LabelIndex = codes "LabelIndex"
validation_name rule.ManyTables = codes "ManyTables"
validation_name rule.ManyMemories = codes "ManyMemories"
validation_name rule.LimitsOrder = codes "LimitsOrder"
validation_name rule.ConstExpr = codes "ConstExpr"
validation_name rule.ConstGlobal = codes "ConstGlobal"
validation_name rule.Alignment = codes "Alignment"
validation_name rule.LabelTypes = codes "LabelTypes"
validation_name rule.OperandMissing = codes "OperandMissing"
validation_name rule.OperandType = codes "OperandType"
validation_name rule.EndOperands = codes "EndOperands"
validation_name rule.DuplicateExport = codes "DuplicateExport"
validation_name rule.StartType = codes "StartType"

-- the refusal of a module with this first violation
abbrev pub invalid_refusal : List ℕ → Violation → Refused
invalid_refusal file v = record { status = 9; line = invalid_line file v.func v.at (validation_name v.rule) }

-- a valid module, or the refusal by its first violation
pub data ModuleValidates (file : List ℕ) (m : WModule) (r : Result WModule Refused) : Type 0 where
  valid : IsValid m → r ≡ Ok m → ModuleValidates file m r
  invalid : (v : Violation) → FirstViolation m v → r ≡ Err (invalid_refusal file v) → ModuleValidates file m r

-- the refusal of a module that does not start
abbrev pub start_refusal : List ℕ → List ℕ → Refused
start_refusal file cause = record { status = 9; line = start_line file cause }

-- a module that starts; or the refusal by its first import that the host does not give, by its first segment out of bounds, or
-- for want of a `main`
pub data ModuleStarts (file : List ℕ) (m : WModule) (r : Result WModule Refused) : Type 0 where
  begins : (first : Config) → start_of m ≡ Begins first → r ≡ Ok m → ModuleStarts file m r
  unknown_import : (i : ℕ) → start_of m ≡ UnknownImport i → r ≡ Err (start_refusal file (codes "import " ++ decimal i)) → ModuleStarts file m r
  segment_out : (i : ℕ) → start_of m ≡ SegmentOut i → r ≡ Err (start_refusal file (codes "segment " ++ decimal i)) → ModuleStarts file m r
  no_exported_main : start_of m ≡ NoMain → r ≡ Err (start_refusal file (codes "no main")) → ModuleStarts file m r

-- a module that can run, or the refusal of one that is invalid or does not start
abbrev pub ModuleRuns : List ℕ → WModule → Result WModule Refused → Type 0
ModuleRuns file m r = Onward (ModuleValidates file m) (ModuleStarts file) r

-- what a told binary leads to
abbrev pub ExecutableLeads : List NamedFile → List ℕ → Result WModule Refused → Type 0
ExecutableLeads told file r = Onward (FileLoads told file) (λ bytes. Onward (BinaryDecodes file bytes) (ModuleRuns file)) r
