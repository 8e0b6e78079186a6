-- The jobs of executions: of a told binary, and of the program that told sources lead to, as its lowered module; this project's
-- own.
use Rattle.std.specs.Prelude.{ℕ, List}
use Rattle.wasm_execution.specs.Behaviour.{wasm}
use Rattle.lowering_table.specs.declared.Pages.{Pages}
use Rattle.lowering_table.specs.Modules.{low_module}
use Rattle.rw_io.specs.Files.{NamedFile}
use Rattle.words.specs.Words.{Source}
use Rattle.rwc_reports.specs.Binaries.{ProgramLeads}
use Rattle.rwc_reports.specs.Executables.{ExecutableLeads}
use Rattle.rwc_reports.specs.Jobs.{Job, JobOf}
use Rattle.rwc_reports.specs.Runs.{RunReports}
use Rattle.rwc_reports.specs.Sources.{FilesLead}

-- a binary is decoded, validated and started, and runs so many steps at most
abbrev pub ExecutionReports : ℕ → List ℕ → List NamedFile → Job → Type 0
ExecutionReports steps file told job = JobOf (ExecutableLeads told file) (λ m. RunReports (wasm m) steps) job

-- A program is lowered and encoded as it is for a binary, and its lowered module runs. That its bytes are decoded as that module,
-- and that it is valid and starts, is a law.
abbrev pub ProgramRunReports : Pages → ℕ → List Source → List NamedFile → Job → Type 0
ProgramRunReports pages steps sources told job =
    JobOf (FilesLead told sources) (λ program. JobOf (ProgramLeads pages program) (λ binary. RunReports (wasm (low_module program pages)) steps)) job
