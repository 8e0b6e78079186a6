-- What a command does and says, related to its words and the files; this project's own. A further command is an equation more
-- of `CommandReports`.
use Rattle.std.specs.Prelude.{◌≡◌, List, ℕ, [], ◌∷◌, length}
use Rattle.std.specs.declared.option.Option.{Option}
use Rattle.std.specs.declared.option.Option.TheVariants.{None, Some}
use Rattle.std.specs.declared.result.Result.{Result}
use Rattle.std.specs.declared.result.Result.TheVariants.{Ok}
use Rattle.rw_io.specs.Files.{NamedFile}
use Rattle.lowering_table.specs.declared.Pages.{Pages}
use Rattle.words.specs.Words.{Command, build, run, exec, show, dump, Source, SpellsCommand}
use Rattle.words.specs.Found.{Finds}
use Rattle.rwc_reports.specs.Acts.{create, append, put}
use Rattle.rwc_reports.specs.Binaries.{ProgramLeads, BinaryDecodes}
use Rattle.rwc_reports.specs.Dumps.{module_lines}
use Rattle.rwc_reports.specs.Executions.{ExecutionReports, ProgramRunReports}
use Rattle.rwc_reports.specs.Jobs.{Job, refusal_job, lines_job, JobOf}
use Rattle.rwc_reports.specs.Lines.{words_line, wrote_line}
use Rattle.rwc_reports.specs.Shows.{ShowReports}
use Rattle.rwc_reports.specs.Sources.{FilesLead, FileLoads}
use Rattle.rwc_reports.specs.Steps.{Refused, Onward}

-- the binary that told sources lead to
abbrev pub BinaryLeads : List NamedFile → List Source → Pages → Result (List ℕ) Refused → Type 0
BinaryLeads told sources pages r = Onward (FilesLead told sources) (ProgramLeads pages) r

-- the lines of a dump, that a told file leads to
abbrev pub LinesLead : List NamedFile → List ℕ → Result (List (List ℕ)) Refused → Type 0
LinesLead told file r = Onward (FileLoads told file) (λ bytes. Onward (BinaryDecodes file bytes) (λ m s. s ≡ Ok (module_lines bytes m))) r

-- a binary is created under a name whole, and then a line says so
abbrev pub build_job : List ℕ → List ℕ → Job
build_job name binary = record {
  acts = create name ∷ append binary ∷ put (wrote_line name (length binary)) ∷ [];
  line = [];
  status = 0;
}

-- the refusal of words
abbrev pub words_job : Job
words_job = refusal_job (record { status = 2; line = words_line })

-- the job of a command, or of words that spell none
abbrev pub CommandReports : Option Command → List NamedFile → Job → Type 0
CommandReports None told job = job ≡ words_job
CommandReports (Some (build lin unr name source)) told job =
    JobOf (BinaryLeads told (source ∷ []) (record { lin = lin; unr = unr })) (λ binary j. j ≡ build_job name binary) job
CommandReports (Some (run lin unr steps source)) told job = ProgramRunReports (record { lin = lin; unr = unr }) steps (source ∷ []) told job
CommandReports (Some (exec steps file)) told job = ExecutionReports steps file told job
CommandReports (Some (show source)) told job = ShowReports source told job
CommandReports (Some (dump file)) told job =
    JobOf (LinesLead told file) (λ lines j. j ≡ lines_job lines 0) job

-- the job of words and files
abbrev pub Reports : List (List ℕ) → List NamedFile → Job → Type 0
Reports words told job = (command : Option Command) × Finds (SpellsCommand words) command × CommandReports command told job
