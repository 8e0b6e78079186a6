-- Words and files report one job at most.
use Rattle.std.proofs.Common.{◌≡◌, refl, ℕ, List, [], ◌∷◌, ap, sym, ◌∙◌, subst, Ok, Err, None, Some}
use Rattle.std.specs.declared.option.Option.{Option}
use Rattle.lowering_table.specs.declared.Pages.{Pages}
use Rattle.rw_io.specs.Files.{NamedFile}
use Rattle.words.specs.Words.{Command, build, run, exec, show, dump, SpellsCommand}
use Rattle.words.specs.Found.{Finds}
use Rattle.words.proofs.OneCommand.{one_command}
use Rattle.rwc_reports.specs.Binaries.{ProgramLeads, BinaryDecodes}
use Rattle.rwc_reports.specs.Dumps.{module_lines}
use Rattle.rwc_reports.specs.Jobs.{Job, refusal_job, lines_job}
use Rattle.rwc_reports.specs.Laws.{OneReport}
use Rattle.rwc_reports.specs.Reports.{build_job, BinaryLeads, LinesLead, CommandReports, Reports}
use Rattle.rwc_reports.specs.Sources.{FileLoads, FilesLead}
use Rattle.rwc_reports.specs.Steps.{Onward}
use Rattle.rwc_reports.proofs.Executions.{one_program_job, one_execution_job}
use Rattle.rwc_reports.proofs.OneAnswer.{one_load, one_program, one_binary, one_decoding}
use Rattle.rwc_reports.proofs.Shows.{one_showing}
use Rattle.rwc_reports.proofs.Steps.{one_then}

command_one : (command : Option Command) (told : List NamedFile) (a b : Job) → CommandReports command told a → CommandReports command told b → a ≡ b
command_one None told a b x y = x ∙ sym y
command_one (Some (build lin unr name source)) told a b x y =
    let pages : Pages = record { lin = lin; unr = unr } in
    one_then refusal_job (BinaryLeads told (source ∷ []) pages) (λ binary j. j ≡ build_job name binary)
    (one_then (λ refused. Err refused) (FilesLead told (source ∷ [])) (ProgramLeads pages) (one_program told (source ∷ [])) (λ program is. one_binary pages program))
    (λ binary also c d p q. p ∙ sym q) a b x y
command_one (Some (run lin unr steps source)) told a b x y = one_program_job (record { lin = lin; unr = unr }) steps (source ∷ []) told a b x y
command_one (Some (exec steps file)) told a b x y = one_execution_job steps file told a b x y
command_one (Some (show source)) told a b x y = one_showing source told a b x y
command_one (Some (dump file)) told a b x y =
    one_then refusal_job (LinesLead told file) (λ lines j. j ≡ lines_job lines 0)
    (one_then (λ refused. Err refused) (FileLoads told file) (λ bytes. Onward (BinaryDecodes file bytes) (λ m s. s ≡ Ok (module_lines bytes m))) (one_load told file)
    (λ bytes is. one_then (λ refused. Err refused) (BinaryDecodes file bytes) (λ m s. s ≡ Ok (module_lines bytes m)) (one_decoding file bytes) (λ m also c d p q. p ∙ sym q)))
    (λ lines also c d p q. p ∙ sym q) a b x y

-- what is found is one, where there is at most one
pub found_one : (words : List (List ℕ)) (a b : Option Command) → Finds (SpellsCommand words) a → Finds (SpellsCommand words) b → a ≡ b
found_one words None None x y = refl
found_one words None (Some c) x y = absurd (x c y)
found_one words (Some c) None x y = absurd (y c x)
found_one words (Some c) (Some d) x y = ap (λ (e : Command). let o : Option Command = Some e in o) (one_command words c d x y)

-- the job of words is that of what they spell
pub reports_found : (words : List (List ℕ)) (command : Option Command) (told : List NamedFile) (job : Job) → Finds (SpellsCommand words) command → Reports words told job → CommandReports command told job
reports_found words command told job found (other, is, reports) = subst (λ (c : Option Command). CommandReports c told job) (found_one words other command is found) reports

pub one_report : OneReport
one_report words told a b (command, is, x) y = command_one command told a b x (reports_found words command told b is y)
