-- Laws of reports; this project's own.
use Rattle.std.specs.Prelude.{◌≡◌, ◌≢◌, ◌≤◌, ℕ, List, [], ◌∷◌, length, ⊤}
use Rattle.std.specs.declared.option.Option.{Option}
use Rattle.std.specs.declared.option.Option.TheVariants.{None, Some}
use Rattle.std.specs.declared.result.Result.TheVariants.{Ok}
use Rattle.wasm_ast.specs.declared.modules.WModule.{WModule}
use Rattle.wasm_grammar.specs.GrammarModules.{SpellsModule}
use Rattle.wasm_reading.specs.declared.fault.DecodeError.{DecodeError}
use Rattle.wasm_reading_laws.specs.ModulesRead.{HasFirstFault}
use Rattle.wasm_reading_values.specs.Exactness.{AreBytes}
use Rattle.rw_types.specs.declared.modules.Module.{Module}
use Rattle.rich_text.specs.Texts.{Spells}
use Rattle.rich_typing.specs.declared.notes.Note.{Note}
use Rattle.rich_typing.specs.Derivations.{IsTyped}
use Rattle.rich_typing.specs.Violations.{Violation, FirstViolation}
use Rattle.rw_program.specs.LonePrograms.{IsLoneProgram}
use Rattle.rw_program.specs.Programs.{Program}
use Rattle.lowering_table.specs.Modules.{ArePages, low_module}
use Rattle.machine_steps.specs.Ending.{BothEnd}
use Rattle.rich_reduction.specs.Starts.{rich}
use Rattle.wasm_execution.specs.Behaviour.{wasm}
use Rattle.lowering_table.specs.declared.Pages.{Pages}
use Rattle.rw_io.specs.Files.{NamedFile, content_of}
use Rattle.words.specs.Words.{Command, build, dump, Source, SpellsCommand}
use Rattle.words.specs.Found.{Finds}
use Rattle.rwc_reports.specs.Answers.{statuses_of}
use Rattle.rwc_reports.specs.Dumps.{dump_job}
use Rattle.rwc_reports.specs.Jobs.{Job}
use Rattle.rwc_reports.specs.Reports.{Reports}
use Rattle.rwc_reports.specs.Sources.{FilesLead, max_file_length}
use Rattle.rwc_reports.specs.Steps.{IsOneOf}

-- words and told files report one job at most
abbrev pub OneReport : Type 0
OneReport = (words : List (List ℕ)) (told : List NamedFile) (a b : Job) → Reports words told a → Reports words told b → a ≡ b

-- the contents of told files are bytes
abbrev pub AreOfBytes : List NamedFile → Type 0
AreOfBytes [] = ⊤
AreOfBytes (file ∷ files) = AreBytes file.1 × AreOfBytes files

-- words and told files report a job
abbrev pub SomeReport : Type 0
SomeReport = (words : List (List ℕ)) (told : List NamedFile) → AreOfBytes told → (job : Job) × Reports words told job

-- the status of a job is one of its command's
abbrev pub StatusesOfCommands : Type 0
StatusesOfCommands = (words : List (List ℕ)) (told : List NamedFile) (job : Job) → Reports words told job → (command : Option Command) × Finds (SpellsCommand words) command × IsOneOf (statuses_of command) job.status

-- a told file whose text spells a typed module is built
abbrev pub TypedIsBuilt : Type 0
TypedIsBuilt = (lin unr : ℕ) (name : List ℕ) (source : Source) (words : List (List ℕ)) (told : List NamedFile) (bytes : List ℕ) (m : Module) (notes : List (List Note)) (job : Job) →
    SpellsCommand words (build lin unr name source) → content_of told source.file ≡ Some bytes → length bytes ≤ max_file_length → Spells bytes m → IsTyped m notes → Reports words told job → job.status ≡ 0

-- a told file that spells a WebAssembly module, all of it, is dumped
abbrev pub ModuleIsDumped : Type 0
ModuleIsDumped = (file bytes : List ℕ) (words : List (List ℕ)) (told : List NamedFile) (m : WModule) (job : Job) →
    SpellsCommand words (dump file) → content_of told file ≡ Some bytes → length bytes ≤ max_file_length → SpellsModule bytes m → Reports words told job → job ≡ dump_job bytes m

-- a told file that has a first fault is refused
abbrev pub FaultIsRefused : Type 0
FaultIsRefused = (file bytes : List ℕ) (words : List (List ℕ)) (told : List NamedFile) (e : DecodeError) (job : Job) →
    SpellsCommand words (dump file) → content_of told file ≡ Some bytes → length bytes ≤ max_file_length → HasFirstFault bytes e → Reports words told job → job.status ≡ 9

-- a module and its bytes that were dumped
pub record IsDumped (told : List NamedFile) (file : List ℕ) (job : Job) : Type 0 where
  pub bytes : List ℕ
  pub content : content_of told file ≡ Some bytes
  pub tree : WModule
  pub spelled : SpellsModule bytes tree
  pub is : job ≡ dump_job bytes tree

-- what was dumped is the lines of the module that the told file spells, all of it
abbrev pub DumpedIsModule : Type 0
DumpedIsModule = (file : List ℕ) (words : List (List ℕ)) (told : List NamedFile) (job : Job) → SpellsCommand words (dump file) → Reports words told job → job.status ≡ 0 → IsDumped told file job

-- Of today's programs alone: what files lead to is a program of one function,
abbrev pub LeadsToLone : Type 0
LeadsToLone = (told : List NamedFile) (source : Source) (program : Program) → FilesLead told (source ∷ []) (Ok program) → IsLoneProgram program

-- which ends, as its lowered module does,
abbrev pub ProgramsEnd : Type 0
ProgramsEnd = (told : List NamedFile) (source : Source) (program : Program) (pages : Pages) → ArePages pages → FilesLead told (source ∷ []) (Ok program) → BothEnd (λ n. rich program n) (λ m. wasm (low_module program pages) m)

-- which can be linked and none of whose sections is too long,
abbrev pub NoneTooLong : Type 0
NoneTooLong = (words : List (List ℕ)) (told : List NamedFile) (job : Job) → Reports words told job → (job.status ≢ 10) × (job.status ≢ 11)

-- and of any module a first violation tells no type.
abbrev pub NoTypeTold : Type 0
NoTypeTold = (m : Module) (v : Violation) → FirstViolation m v → (v.found ≡ None) × (v.expected ≡ None)
