-- Laws of the jobs of executions and of shown texts; this project's own.
use Rattle.std.specs.Prelude.{◌≡◌, ℕ, List, [], ◌∷◌, ◌++◌}
use Rattle.std.specs.declared.result.Result.TheVariants.{Ok}
use Rattle.wasm_grammar.specs.GrammarModules.{SpellsModule}
use Rattle.wasm_typing.specs.Modules.{IsValid}
use Rattle.wasm_execution.specs.Configurations.{Config}
use Rattle.wasm_execution.specs.Starts.{Begins, start_of}
use Rattle.rw_program.specs.Programs.{Program}
use Rattle.lowering_table.specs.declared.Pages.{Pages}
use Rattle.lowering_table.specs.Modules.{ArePages, low_module}
use Rattle.rw_types.specs.declared.modules.Module.{Module}
use Rattle.rich_text.specs.Layout.{canonical_text}
use Rattle.rw_io.specs.Files.{NamedFile}
use Rattle.words.specs.Words.{Source}
use Rattle.rwc_reports.specs.Binaries.{ProgramLeads}
use Rattle.rwc_reports.specs.Executions.{ExecutionReports, ProgramRunReports}
use Rattle.rwc_reports.specs.Jobs.{Job}
use Rattle.rwc_reports.specs.Laws.{AreOfBytes}
use Rattle.rwc_reports.specs.Shows.{ShowReports, shown_lines}
use Rattle.rwc_reports.specs.Sources.{FilesLead}
use Rattle.rwc_reports.specs.Steps.{IsOneOf}

-- what is reported is one job, for all told files whose contents are bytes, and its status is one of these
pub record IsOneJob (Reports : List NamedFile → Job → Type 0) (statuses : List ℕ) : Type 0 where
  pub some : (told : List NamedFile) → AreOfBytes told → (job : Job) × Reports told job
  pub one : (told : List NamedFile) (a b : Job) → Reports told a → Reports told b → a ≡ b
  pub status : (told : List NamedFile) (job : Job) → Reports told job → IsOneOf statuses job.status

-- the execution of a binary
abbrev pub OneExecution : Type 0
OneExecution = (steps : ℕ) (file : List ℕ) → IsOneJob (ExecutionReports steps file) (0 ∷ 3 ∷ 6 ∷ 7 ∷ 9 ∷ [])

-- the run of a program, of one source file so far
abbrev pub OneProgramRun : Type 0
OneProgramRun = (pages : Pages) (steps : ℕ) (source : Source) → ArePages pages → IsOneJob (ProgramRunReports pages steps (source ∷ [])) (0 ∷ 1 ∷ 3 ∷ 6 ∷ 7 ∷ 10 ∷ 11 ∷ [])

-- the binary of a program spells its lowered module, which is valid and starts: so what is run is what the bytes are
pub record RunsItself (pages : Pages) (program : Program) (binary : List ℕ) : Type 0 where
  pub spelled : SpellsModule binary (low_module program pages)
  pub valid : IsValid (low_module program pages)
  pub first : Config
  pub begins : start_of (low_module program pages) ≡ Begins first

abbrev pub BinariesRun : Type 0
BinariesRun = (told : List NamedFile) (source : Source) (pages : Pages) (program : Program) (binary : List ℕ) → ArePages pages → FilesLead told (source ∷ []) (Ok program) → ProgramLeads pages program (Ok binary) → RunsItself pages program binary

-- the showing of a source
abbrev pub OneShow : Type 0
OneShow = (source : Source) → IsOneJob (ShowReports source) (0 ∷ 1 ∷ 3 ∷ [])

-- lines, one after another
abbrev pub joined : List (List ℕ) → List ℕ
joined [] = []
joined (line ∷ lines) = line ++ joined lines

-- what is put is the canonical text, all of it
abbrev pub ShownIsCanonical : Type 0
ShownIsCanonical = (m : Module) → joined (shown_lines m) ≡ canonical_text m
