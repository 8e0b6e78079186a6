-- Words and told files report a job.
use Rattle.std.proofs.Common.{◌≡◌, refl, ℕ, List, [], ◌∷◌, Ok, Err, None, Some}
use Rattle.std.specs.declared.option.Option.{Option}
use Rattle.lowering_table.specs.declared.Pages.{Pages}
use Rattle.rw_io.specs.Files.{NamedFile}
use Rattle.words.specs.Words.{Command, build, run, exec, show, dump, SpellsCommand}
use Rattle.words.specs.Found.{Finds}
use Rattle.words.proofs.SomeCommand.{command_or_none}
use Rattle.rwc_reports.specs.Binaries.{ProgramLeads, BinaryDecodes}
use Rattle.rwc_reports.specs.Dumps.{module_lines}
use Rattle.rwc_reports.specs.Jobs.{Job, refusal_job, lines_job}
use Rattle.rwc_reports.specs.Laws.{AreOfBytes, SomeReport}
use Rattle.rwc_reports.specs.Reports.{build_job, words_job, BinaryLeads, LinesLead, CommandReports}
use Rattle.rwc_reports.specs.Sources.{FileLoads, FilesLead}
use Rattle.rwc_reports.specs.Steps.{Onward}
use Rattle.rwc_reports.proofs.Executions.{some_program_job, some_execution_job}
use Rattle.rwc_reports.proofs.LonePrograms.{leads_to_lone}
use Rattle.rwc_reports.proofs.Shows.{some_showing}
use Rattle.rwc_reports.proofs.SomeAnswer.{are_pages, run_pages, some_load, load_bytes, some_decoding, some_program, some_binary}
use Rattle.rwc_reports.proofs.Steps.{some_then}

some_job : (words : List (List ℕ)) (command : Option Command) (told : List NamedFile) → Finds (SpellsCommand words) command → AreOfBytes told → (job : Job) × CommandReports command told job
some_job words None told found all = (words_job, refl)
some_job words (Some (build lin unr name source)) told found all =
    let pages : Pages = record { lin = lin; unr = unr } in
    some_then refusal_job (BinaryLeads told (source ∷ []) pages) (λ binary j. j ≡ build_job name binary)
    (some_then (λ refused. Err refused) (FilesLead told (source ∷ [])) (ProgramLeads pages) (some_program told source)
    (λ program is. some_binary pages program (are_pages lin unr name source words found) (leads_to_lone told source program is)))
    (λ binary also. (build_job name binary, refl))
some_job words (Some (run lin unr steps source)) told found all = some_program_job (record { lin = lin; unr = unr }) steps source (run_pages lin unr steps source words found) told all
some_job words (Some (exec steps file)) told found all = some_execution_job steps file told all
some_job words (Some (show source)) told found all = some_showing source told all
some_job words (Some (dump file)) told found all =
    some_then refusal_job (LinesLead told file) (λ lines j. j ≡ lines_job lines 0)
    (some_then (λ refused. Err refused) (FileLoads told file) (λ bytes. Onward (BinaryDecodes file bytes) (λ m s. s ≡ Ok (module_lines bytes m))) (some_load told file)
    (λ bytes is. some_then (λ refused. Err refused) (BinaryDecodes file bytes) (λ m s. s ≡ Ok (module_lines bytes m)) (some_decoding file bytes (load_bytes told file bytes all is)) (λ m also. (Ok (module_lines bytes m), refl))))
    (λ lines also. (lines_job lines 0, refl))

pub some_report : SomeReport
some_report words told all =
    let command = command_or_none words in
    let job = some_job words command.0 told command.1 all in
    (job.0, (command.0, command.1, job.1))
