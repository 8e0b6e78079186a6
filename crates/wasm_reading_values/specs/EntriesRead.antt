-- The readers of the entries of sections read exactly what the grammar spells, within the profile (WebAssembly Core
-- Specification 1.0, section 5.5). Readers of entries with instructions are exact where the
-- reader of expressions is.
use Rattle.std.specs.Prelude.{◌≡◌, ℕ, ◌+◌, ◌^◌, ◌<◌, ◌≤◌, List, length}
use Rattle.wasm_ast.specs.declared.instructions.WInstr.{WInstr}
use Rattle.wasm_ast.specs.declared.modules.LocalRun.{LocalRun}
use Rattle.wasm_grammar.specs.Nesting.{nesting_limit, NestsAtMost}
use Rattle.wasm_grammar.specs.ProfileInstructions.{IsShortListOf, InstructionsFit, ConstantFits}
use Rattle.wasm_grammar.specs.Profile.{local_limit, local_total, ImportFits, GlobalFits, ExportFits, ElementFits, CodeFits, SegmentFits}
use Rattle.wasm_grammar.specs.GrammarValues.{IsEach, IsVector}
use Rattle.wasm_grammar.specs.GrammarInstructions.{IsExpression, IsConstantExpression}
use Rattle.wasm_grammar.specs.GrammarModules.{IsImport, IsGlobal, IsExport, IsElement, IsLocalRun, IsCode, IsSegment}
use Rattle.wasm_reading.specs.ReadInstructions.{expression_at, constant_at}
use Rattle.wasm_reading.specs.ReadModules.{import_at, global_at, export_at, element_at, local_runs_at, code_at, codes_at, segment_at}
use Rattle.wasm_reading_values.specs.Exactness.{Exact}

-- imports
abbrev pub ImportsReadExactly : Type 0
ImportsReadExactly = Exact import_at (λ i bytes. ImportFits i × IsImport i bytes)

-- exports
abbrev pub ExportsReadExactly : Type 0
ExportsReadExactly = Exact export_at (λ e bytes. ExportFits e × IsExport e bytes)

-- constant expressions
abbrev pub ConstantsReadExactly : Type 0
ConstantsReadExactly = Exact constant_at (λ w bytes. ConstantFits w × IsConstantExpression w bytes)

-- globals
abbrev pub GlobalsReadExactly : Type 0
GlobalsReadExactly = Exact global_at (λ g bytes. GlobalFits g × IsGlobal g bytes)

-- element segments
abbrev pub ElementsReadExactly : Type 0
ElementsReadExactly = Exact element_at (λ s bytes. ElementFits s × IsElement s bytes)

-- data segments
abbrev pub SegmentsReadExactly : Type 0
SegmentsReadExactly = Exact segment_at (λ s bytes. SegmentFits s × IsSegment s bytes)

-- so many runs, for which the limit has room behind the locals that are declared before
abbrev pub AreRuns : ℕ → ℕ → List LocalRun → List ℕ → Type 0
AreRuns before n runs bytes = ((length runs ≡ n) × (before + local_total runs ≤ local_limit)) × IsEach IsLocalRun runs bytes

-- runs of locals, behind so many locals
abbrev pub LocalsReadExactly : Type 0
LocalsReadExactly = (before n : ℕ) → before ≤ local_limit → Exact (local_runs_at before n) (AreRuns before n)

-- expressions, which nest no deeper than the profile has it
abbrev pub ExpressionsReadExactly : Type 0
ExpressionsReadExactly = Exact expression_at (λ xs bytes. NestsAtMost nesting_limit xs × IsExpression xs bytes)

-- what fewer than 2 ^ 32 bytes spell fits its fields
abbrev pub ShortExpressionsFit : Type 0
ShortExpressionsFit = (xs : List WInstr) (bytes : List ℕ) → IsExpression xs bytes → length bytes < 2 ^ 32 → (length xs < 2 ^ 32) × InstructionsFit xs

-- codes
abbrev pub CodesReadExactly : Type 0
CodesReadExactly = Exact code_at (λ c bytes. (CodeFits c × NestsAtMost nesting_limit c.body) × IsCode c bytes)

-- the codes of so many functions
abbrev pub CodeVectorsReadExactly : Type 0
CodeVectorsReadExactly =
    (functions : ℕ) → Exact (codes_at functions) (λ cs bytes. ((length cs ≡ functions) × IsShortListOf (λ c. CodeFits c × NestsAtMost nesting_limit c.body) cs) × IsVector IsCode cs bytes)
