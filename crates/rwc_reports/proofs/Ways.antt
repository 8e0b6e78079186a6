-- The ways to the job of a command, taken apart: where it is refused, and where it is done.
use Rattle.std.proofs.Common.{◌≡◌, ℕ, List, [], ◌∷◌, ap, sym, ◌∙◌, Ok, Err, Some}
use Rattle.wasm_ast.specs.declared.modules.WModule.{WModule}
use Rattle.rw_program.specs.Programs.{Program}
use Rattle.rw_io.specs.Files.{NamedFile}
use Rattle.words.specs.Words.{build, dump, Source}
use Rattle.rwc_reports.specs.Binaries.{ProgramLeads, BinaryDecodes}
use Rattle.rwc_reports.specs.Dumps.{dump_job, module_lines}
use Rattle.rwc_reports.specs.Jobs.{Job, refusal_job, lines_job}
use Rattle.rwc_reports.specs.Reports.{build_job, CommandReports}
use Rattle.rwc_reports.specs.Sources.{FileLoads, FilesLead}
use Rattle.rwc_reports.specs.Steps.{Refused, goes_on, stops}
use Rattle.rwc_reports.proofs.Steps.{same_value, same_refused, not_both}

pub data BuildComes (told : List NamedFile) (lin unr : ℕ) (name : List ℕ) (source : Source) (job : Job) : Type 0 where
  refused_files : (refused : Refused) → FilesLead told (source ∷ []) (Err refused) → job ≡ refusal_job refused → BuildComes told lin unr name source job
  refused_program : (program : Program) (refused : Refused) → FilesLead told (source ∷ []) (Ok program) → ProgramLeads (record { lin = lin; unr = unr }) program (Err refused) → job ≡ refusal_job refused → BuildComes told lin unr name source job
  is_built : (program : Program) (binary : List ℕ) → FilesLead told (source ∷ []) (Ok program) → ProgramLeads (record { lin = lin; unr = unr }) program (Ok binary) → job ≡ build_job name binary → BuildComes told lin unr name source job

pub data DumpComes (told : List NamedFile) (file : List ℕ) (job : Job) : Type 0 where
  refused_file : (refused : Refused) → FileLoads told file (Err refused) → job ≡ refusal_job refused → DumpComes told file job
  refused_binary : (bytes : List ℕ) (refused : Refused) → FileLoads told file (Ok bytes) → BinaryDecodes file bytes (Err refused) → job ≡ refusal_job refused → DumpComes told file job
  is_dumped : (bytes : List ℕ) (m : WModule) → FileLoads told file (Ok bytes) → BinaryDecodes file bytes (Ok m) → job ≡ dump_job bytes m → DumpComes told file job

refusal_same : (a b : Refused) (job : Job) → job ≡ refusal_job a → a ≡ b → job ≡ refusal_job b
refusal_same a b job e same = e ∙ ap refusal_job same

pub build_comes : (told : List NamedFile) (lin unr : ℕ) (name : List ℕ) (source : Source) (job : Job) → CommandReports (Some (build lin unr name source)) told job → BuildComes told lin unr name source job
build_comes told lin unr name source job (goes_on binary (goes_on program leads is) e) = is_built program binary leads is e
build_comes told lin unr name source job (goes_on binary (stops r files f) e) = absurd (not_both binary r f)
build_comes told lin unr name source job (stops r (goes_on program leads is) e) = refused_program program r leads is e
build_comes told lin unr name source job (stops r (stops q files f) e) = refused_files q files (refusal_same r q job e (same_refused r q f))

pub dump_comes : (told : List NamedFile) (file : List ℕ) (job : Job) → CommandReports (Some (dump file)) told job → DumpComes told file job
dump_comes told file job (goes_on lines (goes_on bytes load (goes_on m decodes f)) e) = is_dumped bytes m load decodes (e ∙ ap (λ (all : List (List ℕ)). lines_job all 0) (same_value lines (module_lines bytes m) f))
dump_comes told file job (goes_on lines (goes_on bytes load (stops r decodes f)) e) = absurd (not_both lines r f)
dump_comes told file job (goes_on lines (stops r load f) e) = absurd (not_both lines r f)
dump_comes told file job (stops r (goes_on bytes load (goes_on m decodes f)) e) = absurd (not_both (module_lines bytes m) r (sym f))
dump_comes told file job (stops r (goes_on bytes load (stops q decodes f)) e) = refused_binary bytes q load decodes (refusal_same r q job e (same_refused r q f))
dump_comes told file job (stops r (stops q load f) e) = refused_file q load (refusal_same r q job e (same_refused r q f))
