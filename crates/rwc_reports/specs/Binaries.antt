-- What a program leads to, and what a binary leads to; this project's own.
use Rattle.std.specs.Prelude.{◌≡◌, ℕ, List, codes}
use Rattle.std.specs.declared.result.Result.{Result}
use Rattle.std.specs.declared.result.Result.TheVariants.{Ok, Err}
use Rattle.wasm_ast.specs.declared.modules.WModule.{WModule}
use Rattle.wasm_grammar.specs.CanonicalModules.{HasShortContents, module_bytes}
use Rattle.wasm_grammar.specs.GrammarModules.{SpellsModule}
use Rattle.wasm_encode.specs.Contents.{IsFirstTooLong}
use Rattle.wasm_reading.specs.declared.fault.DecodeError.{DecodeError}
use Rattle.wasm_reading.specs.declared.fault.DecodeFault.{DecodeFault}
use Rattle.wasm_reading.specs.declared.fault.DecodeFault.TheVariants as fault
use Rattle.wasm_reading_laws.specs.ModulesRead.{HasFirstFault}
use Rattle.rw_program.specs.LonePrograms.{IsLoneProgram}
use Rattle.rw_program.specs.Programs.{Program}
use Rattle.lowering_table.specs.declared.Pages.{Pages}
use Rattle.lowering_table.specs.Modules.{low_module}
use Rattle.rwc_reports.specs.Lines.{too_many_section_line, malformed_line}
use Rattle.rwc_reports.specs.Steps.{Refused, Onward}

-- the lowered module of a program; none is refused so far
abbrev pub ProgramLowers : Pages → Program → Result WModule Refused → Type 0
ProgramLowers pages program r = r ≡ Ok (low_module program pages)

-- the canonical bytes of a module; or the refusal of the first section whose content has 2^32 bytes or more
pub data ModuleEncodes (m : WModule) (r : Result (List ℕ) Refused) : Type 0 where
  encoded : HasShortContents m → r ≡ Ok (module_bytes m) → ModuleEncodes m r
  too_long : (id : ℕ) → IsFirstTooLong m id → r ≡ Err (record { status = 11; line = too_many_section_line id }) → ModuleEncodes m r

-- the binary of a program with so many pages
abbrev pub ProgramLeads : Pages → Program → Result (List ℕ) Refused → Type 0
ProgramLeads pages program r = Onward (ProgramLowers pages program) ModuleEncodes r

-- the canonical bytes of the lowered module of a program of today
pub record IsLoneBinary (pages : Pages) (bytes : List ℕ) : Type 0 where
  pub program : Program
  pub lone : IsLoneProgram program
  pub is : bytes ≡ module_bytes (low_module program pages)

-- the names of the faults
abbrev pub fault_name : DecodeFault → List ℕ
fault_name fault.Truncated = codes "Truncated"
fault_name fault.BadMagic = codes "BadMagic"
fault_name fault.BadVersion = codes "BadVersion"
fault_name fault.BadLeb = codes "BadLeb"
fault_name fault.BadTag = codes "BadTag"
fault_name fault.BadOrder = codes "BadOrder"
fault_name fault.BadLength = codes "BadLength"
fault_name fault.BadUtf8 = codes "BadUtf8"
fault_name fault.CountMismatch = codes "CountMismatch"
fault_name fault.FloatOutside = codes "FloatOutside"
fault_name fault.LimitOutside = codes "LimitOutside"
fault_name fault.Memory = codes "Memory"

-- the refusal of bytes with this first fault
abbrev pub malformed_refusal : List ℕ → DecodeError → Refused
malformed_refusal file e = record { status = 9; line = malformed_line file e.at (fault_name e.fault) }

-- the module that bytes spell, all of them, or the refusal by their first fault
pub data BinaryDecodes (file bytes : List ℕ) (r : Result WModule Refused) : Type 0 where
  decoded : (m : WModule) → SpellsModule bytes m → r ≡ Ok m → BinaryDecodes file bytes r
  malformed : (e : DecodeError) → HasFirstFault bytes e → r ≡ Err (malformed_refusal file e) → BinaryDecodes file bytes r
