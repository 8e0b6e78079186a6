-- Why a job is refused or a run comes to no value: each way to it, taken apart.
use Rattle.std.specs.Prelude.{◌==◌, ◌||◌}
use Rattle.std.proofs.Common.{◌≡◌, inl, inr, ℕ, Bool, true, false, List, [], ◌∷◌, refl, ap, sym, ◌∙◌, subst, Ok, Err, None, Some}
use Rattle.std.specs.declared.option.Option.{Option}
use Rattle.std.specs.declared.result.Result.{Result}
use Rattle.machine_steps.specs.declared.End.TheVariants.{Value, Trap}
use Rattle.machine_steps.specs.Agreement.{Seen}
use Rattle.wasm_ast.specs.declared.modules.WModule.{WModule}
use Rattle.wasm_encode.specs.Contents.{IsFirstTooLong}
use Rattle.wasm_execution.specs.Behaviour.{wasm}
use Rattle.wasm_grammar.specs.GrammarModules.{SpellsModule}
use Rattle.wasm_typing.specs.Modules as wasm_typing
use Rattle.rw_types.specs.declared.modules.Module.{Module}
use Rattle.rich_text.specs.Texts.{Spells, Found}
use Rattle.rich_text_laws.specs.Laws.{HasFirstFault}
use Rattle.rw_program.specs.Modules.{TypedModule}
use Rattle.rw_program.specs.Programs.{Program}
use Rattle.lowering_table.specs.declared.Pages.{Pages}
use Rattle.lowering_table.specs.Modules.{low_module}
use Rattle.rw_io.specs.Files.{NamedFile}
use Rattle.words.specs.declared.SourceKind.{SourceKind}
use Rattle.words.specs.Words.{Command, build, run, exec, show, dump, Source, files_of}
use Rattle.rwc_reports.specs.Answers.{statuses_of, IsRefusal}
use Rattle.rwc_reports.specs.Binaries.{ProgramLeads, ModuleEncodes, encoded, too_long as section_too_long, BinaryDecodes, decoded, malformed, malformed_refusal}
use Rattle.rwc_reports.specs.Causes.{sources_of, programs_of, pages_of, binary_of, RunsModule, of_binary, of_program, Cause, not_loaded, no_module, violated as in_violation, malformed as at_fault, invalid as breaks_rule, not_started, not_linked, too_long as unencoded, trapped, spent as goes_on_after, RefusedSource}
use Rattle.rwc_reports.specs.Executables.{ModuleValidates, valid, invalid, invalid_refusal, ModuleStarts, begins, unknown_import, segment_out, no_exported_main, ExecutableLeads}
use Rattle.rwc_reports.specs.Executions.{ExecutionReports, ProgramRunReports}
use Rattle.rwc_reports.specs.Jobs.{Job, refusal_job}
use Rattle.rwc_reports.specs.Reports.{CommandReports}
use Rattle.rwc_reports.specs.Runs.{RunReports, ended, spent}
use Rattle.rwc_reports.specs.Shows.{ShowReports}
use Rattle.rwc_reports.specs.Sources.{FileLoads, loaded, missing, too_long, TextReads, spelled, faulty, text_refusal, ModuleChecks, typed, violated, SourceChecks, linked, no_main, SourcesLoad, SourcesLink, FilesLead}
use Rattle.rwc_reports.specs.Steps.{Refused, goes_on, stops, EachLeads, FirstRefused, IsOneOf}
use Rattle.rwc_reports.proofs.Steps.{same_value, same_refused, not_both, one_value, first_refused}
use Rattle.rwc_reports.proofs.Ways.{BuildComes, refused_files, refused_program, is_built, build_comes, DumpComes, refused_file, refused_binary, is_dumped, dump_comes}

pub load_status : (told : List NamedFile) (file : List ℕ) (refused : Refused) → FileLoads told file (Err refused) → refused.status ≡ 3
load_status told file refused (loaded bytes is le e) = absurd (not_both bytes refused (sym e))
load_status told file refused (missing none e) = ap (λ (r : Refused). r.status) (same_refused refused _ e)
load_status told file refused (too_long bytes is long e) = ap (λ (r : Refused). r.status) (same_refused refused _ e)

pub text_status : (kind : SourceKind) (file bytes : List ℕ) (refused : Refused) → TextReads kind file bytes (Err refused) → refused.status ≡ 1
text_status kind file bytes refused (spelled m k is e) = absurd (not_both m refused (sym e))
text_status kind file bytes refused (faulty f k first e) = ap (λ (r : Refused). r.status) (same_refused refused (text_refusal file f) e)

pub check_status : (file : List ℕ) (m : Module) (refused : Refused) → ModuleChecks file m (Err refused) → refused.status ≡ 1
check_status file m refused (typed notes t e) = absurd (not_both _ refused (sym e))
check_status file m refused (violated v first e) = ap (λ (r : Refused). r.status) (same_refused refused _ e)

pub encode_status : (m : WModule) (refused : Refused) → ModuleEncodes m (Err refused) → refused.status ≡ 11
encode_status m refused (encoded short e) = absurd (not_both _ refused (sym e))
encode_status m refused (section_too_long id first e) = ap (λ (r : Refused). r.status) (same_refused refused _ e)

pub decode_status : (file bytes : List ℕ) (refused : Refused) → BinaryDecodes file bytes (Err refused) → refused.status ≡ 9
decode_status file bytes refused (decoded m is e) = absurd (not_both m refused (sym e))
decode_status file bytes refused (malformed f first e) = ap (λ (r : Refused). r.status) (same_refused refused _ e)

-- a refusal of a command, with its cause and one of its statuses
pub record Refuses (told : List NamedFile) (command : Command) (refused : Refused) : Type 0 where
  pub cause : Cause told command refused
  pub status : IsOneOf (statuses_of (Some command)) refused.status
  pub refusal : IsRefusal refused.status

-- these are statuses of a command
abbrev AreOf : Command → List ℕ → Type 0
AreOf command statuses = (n : ℕ) → IsOneOf statuses n → IsOneOf (statuses_of (Some command)) n

file_refused : (told : List NamedFile) (source : Source) (refused : Refused) → SourcesLoad told (source ∷ []) (Err refused) → EachLeads (FileLoads told) (source.file ∷ []) (Err refused)
file_refused told source refused (stops r f e) = stops r f (ap (λ (q : Refused). let o : Result (List (List ℕ × List ℕ)) Refused = Err q in o) (same_refused refused r e))
file_refused told source refused (goes_on bytes f (stops r g e)) = absurd (not_both _ r (sym g))
file_refused told source refused (goes_on bytes f (goes_on values g e)) = absurd (not_both _ refused (sym e))

link_status : (refused : Refused) (checked : List ((Source × List ℕ) × TypedModule)) → SourcesLink checked (Err refused) → refused.status ≡ 10
link_status refused checked (linked file p one is e) = absurd (not_both p refused (sym e))
link_status refused checked (no_main none e) = ap (λ (q : Refused). q.status) (same_refused refused _ e)

-- a command of one source, which is loaded and read
module _ (told : List NamedFile) (command : Command) (source : Source) (files : files_of command ≡ source.file ∷ []) (reads : sources_of command ≡ source ∷ []) (own : AreOf command (1 ∷ 3 ∷ [])) where
  pub of_load : (refused : Refused) → SourcesLoad told (source ∷ []) (Err refused) → Refuses told command refused
  of_load refused load =
      let first = first_refused (λ (s : Source). FileLoads told s.file) (source ∷ []) refused load in
      let status = load_status told first.at.file refused first.is in
      record {
        cause = not_loaded status (subst (λ (all : List (List ℕ)). FirstRefused (FileLoads told) all refused) (sym files) (first_refused (FileLoads told) (source.file ∷ []) refused (file_refused told source refused load)));
        status = own refused.status (inr (inl status));
        refusal = inr (inl status);
      }

  of_fault : (all : List (Source × List ℕ)) (refused : Refused) → SourcesLoad told (source ∷ []) (Ok all) → (first : RefusedSource all refused) → (found : Found) → HasFirstFault first.at.1 found → refused ≡ text_refusal first.at.0.file found → Refuses told command refused
  of_fault all refused load first found fault same =
      let status = ap (λ (q : Refused). q.status) same in
      record {
        cause = no_module all (subst (λ (s : List Source). SourcesLoad told s (Ok all)) (sym reads) load) first found fault same;
        status = own refused.status (inl status);
        refusal = inl status;
      }

  -- a text that is read alone
  pub of_text : (bytes : List ℕ) (refused : Refused) → FileLoads told source.file (Ok bytes) → TextReads source.kind source.file bytes (Err refused) → Refuses told command refused
  of_text bytes refused load (spelled m k is e) = absurd (not_both m refused (sym e))
  of_text bytes refused load (faulty found k fault e) =
      let text : TextReads source.kind source.file bytes (Err refused) = faulty found k fault e in
      of_fault ((source, bytes) ∷ []) refused (one_value (λ (s : Source). FileLoads told s.file) source bytes load)
      (record { before = []; at = (source, bytes); after = []; split = refl; values = []; passed = refl; is = stops refused text refl })
      found fault (same_refused refused (text_refusal source.file found) e)

  -- and checked, linked and lowered
  module _ (pages : Pages) (checks : programs_of command ≡ source ∷ []) (has_pages : pages_of command ≡ Some pages) (also : AreOf command (10 ∷ 11 ∷ [])) where
    of_first : (all : List (Source × List ℕ)) (refused : Refused) → SourcesLoad told (source ∷ []) (Ok all) → (first : RefusedSource all refused) → SourceChecks first.at (Err refused) → Refuses told command refused
    of_first all refused load first (stops r (spelled m k is e) f) = absurd (not_both m r (sym e))
    of_first all refused load first (stops r (faulty found k fault e) f) = of_fault all refused load first found fault (same_refused refused r f ∙ same_refused r (text_refusal first.at.0.file found) e)
    of_first all refused load first (goes_on m text (typed notes t e)) = absurd (not_both _ refused (sym e))
    of_first all refused load first (goes_on m (faulty found k fault f) (violated v is e)) = absurd (not_both m _ f)
    of_first all refused load first (goes_on m (spelled n k spells f) (violated v is e)) =
        let same = same_refused refused _ e in
        let status = ap (λ (q : Refused). q.status) same in
        record {
          cause = in_violation all (subst (λ (s : List Source). SourcesLoad told s (Ok all)) (sym checks) load) first m v (subst (λ (x : Module). Spells first.at.1 x) (sym (same_value m n f)) spells) is same;
          status = own refused.status (inl status);
          refusal = inl status;
        }

    pub of_files : (refused : Refused) → FilesLead told (source ∷ []) (Err refused) → Refuses told command refused
    of_files refused (stops r load e) = subst (Refuses told command) (sym (same_refused refused r e)) (of_load r load)
    of_files refused (goes_on all load (stops r check e)) =
        let first = first_refused SourceChecks all r check in
        subst (Refuses told command) (sym (same_refused refused r e)) (of_first all r load first first.is)
    of_files refused (goes_on all load (goes_on checked check link)) =
        let status = link_status refused checked link in
        record {
          cause = not_linked all (subst (λ (s : List Source). SourcesLoad told s (Ok all)) (sym checks) load) checked check link status;
          status = also refused.status (inl status);
          refusal = inr (inr (inr (inr (inr (inl status)))));
        }

    of_encoding : (program : Program) (m : WModule) (refused : Refused) → FilesLead told (source ∷ []) (Ok program) → m ≡ low_module program pages → ModuleEncodes m (Err refused) → Refuses told command refused
    of_encoding program m refused leads low (encoded short e) = absurd (not_both _ refused (sym e))
    of_encoding program m refused leads low (section_too_long id first e) =
        let same = same_refused refused _ e in
        let status = ap (λ (q : Refused). q.status) same in
        record {
          cause = unencoded pages program id has_pages (subst (λ (s : List Source). FilesLead told s (Ok program)) (sym checks) leads) (subst (λ (k : WModule). IsFirstTooLong k id) low first) same;
          status = also refused.status (inr (inl status));
          refusal = inr (inr (inr (inr (inr (inr (inl status))))));
        }

    pub of_lowered : (program : Program) (refused : Refused) → FilesLead told (source ∷ []) (Ok program) → ProgramLeads pages program (Err refused) → Refuses told command refused
    of_lowered program refused leads (stops r low e) = absurd (not_both _ r (sym low))
    of_lowered program refused leads (goes_on m low encodes) = of_encoding program m refused leads (same_value m _ low) encodes

-- a command of one binary, which is loaded and decoded
module _ (told : List NamedFile) (command : Command) (file : List ℕ) (files : files_of command ≡ file ∷ []) (decodes : binary_of command ≡ Some file) (own : AreOf command (3 ∷ 9 ∷ [])) where
  pub of_file : (refused : Refused) → FileLoads told file (Err refused) → Refuses told command refused
  of_file refused load =
      let status = load_status told file refused load in
      record {
        cause = not_loaded status (subst (λ (all : List (List ℕ)). FirstRefused (FileLoads told) all refused) (sym files) (first_refused (FileLoads told) (file ∷ []) refused (stops refused load refl)));
        status = own refused.status (inl status);
        refusal = inr (inl status);
      }

  pub of_decoding : (bytes : List ℕ) (refused : Refused) → FileLoads told file (Ok bytes) → BinaryDecodes file bytes (Err refused) → Refuses told command refused
  of_decoding bytes refused load (decoded m is e) = absurd (not_both m refused (sym e))
  of_decoding bytes refused load (malformed f first e) =
      let same = same_refused refused (malformed_refusal file f) e in
      let status = ap (λ (q : Refused). q.status) same in
      record { cause = at_fault file bytes f decodes load first same; status = own refused.status (inr (inl status)); refusal = inr (inr (inr (inr (inl status)))) }

abbrev is_refusal : ℕ → Bool
is_refusal n = n == 1 || n == 3 || n == 6 || n == 7 || n == 9 || n == 10 || n == 11

refusal_is : (status : ℕ) → IsRefusal status → is_refusal status ≡ true
refusal_is status (inl e) = ap is_refusal e
refusal_is status (inr (inl e)) = ap is_refusal e
refusal_is status (inr (inr (inl e))) = ap is_refusal e
refusal_is status (inr (inr (inr (inl e)))) = ap is_refusal e
refusal_is status (inr (inr (inr (inr (inl e))))) = ap is_refusal e
refusal_is status (inr (inr (inr (inr (inr (inl e)))))) = ap is_refusal e
refusal_is status (inr (inr (inr (inr (inr (inr (inl e))))))) = ap is_refusal e
refusal_is status (inr (inr (inr (inr (inr (inr (inr none))))))) = absurd none

-- a status of a refusal is no other
pub apart : (status n : ℕ) → IsRefusal status → status ≡ n → is_refusal n ≡ false → ⊥
apart status n refusal is other = let bad : true ≡ false = sym (refusal_is status refusal) ∙ ap is_refusal is ∙ other in cc

-- the job of a command: it is refused, or its run comes to no value, with a cause; or it is done
pub data Comes (told : List NamedFile) (command : Command) (job : Job) : Type 0 where
  refuses : (refused : Refused) → Refuses told command refused → job.status ≡ refused.status → job.line ≡ refused.line → Comes told command job
  is_done : job.status ≡ 0 → Comes told command job

refusal_comes : (told : List NamedFile) (command : Command) (job : Job) (refused : Refused) → Refuses told command refused → job ≡ refusal_job refused → Comes told command job
refusal_comes told command job refused r e = refuses refused r (ap (λ (j : Job). j.status) e) (ap (λ (j : Job). j.line) e)

-- the statuses of a build, a run, an execution, a showing and a dump
module _ (lin unr : ℕ) (name : List ℕ) (source : Source) where
  build_one : AreOf (build lin unr name source) (1 ∷ 3 ∷ [])
  build_one n (inl e) = inr (inl e)
  build_one n (inr (inl e)) = inr (inr (inl e))
  build_one n (inr (inr none)) = absurd none

  build_ten : AreOf (build lin unr name source) (10 ∷ 11 ∷ [])
  build_ten n (inl e) = inr (inr (inr (inl e)))
  build_ten n (inr (inl e)) = inr (inr (inr (inr (inl e))))
  build_ten n (inr (inr none)) = absurd none

  -- of the files and of the program of a build
  module _ (told : List NamedFile) where
    pub of_built_files : (refused : Refused) → FilesLead told (source ∷ []) (Err refused) → Refuses told (build lin unr name source) refused
    of_built_files = of_files told (build lin unr name source) source refl refl build_one (record { lin = lin; unr = unr }) refl refl build_ten

    pub of_built_program : (program : Program) (refused : Refused) → FilesLead told (source ∷ []) (Ok program) → ProgramLeads (record { lin = lin; unr = unr }) program (Err refused) → Refuses told (build lin unr name source) refused
    of_built_program = of_lowered told (build lin unr name source) source refl refl build_one (record { lin = lin; unr = unr }) refl refl build_ten

    build_way : (job : Job) → BuildComes told lin unr name source job → Comes told (build lin unr name source) job
    build_way job (refused_files refused files e) = refusal_comes told (build lin unr name source) job refused (of_built_files refused files) e
    build_way job (refused_program program refused leads program_leads e) = refusal_comes told (build lin unr name source) job refused (of_built_program program refused leads program_leads) e
    build_way job (is_built program binary leads program_leads e) = is_done (ap (λ (j : Job). j.status) e)

-- a run of a command's module
module _ (told : List NamedFile) (command : Command) (m : WModule) (steps : ℕ) (runs : RunsModule told command m steps) (own : AreOf command (6 ∷ 7 ∷ [])) where
  run_way : (job : Job) → RunReports (wasm m) steps job → Comes told command job
  run_way job (ended count printed (Value v) le before is e) = is_done (ap (λ (j : Job). j.status) e)
  run_way job (ended count printed (Trap t) le before is e) =
      refuses (record { status = 6; line = [] })
      (record { cause = trapped m steps count t runs le (ap (λ (s : Seen). s.stand) is) refl; status = own 6 (inl refl); refusal = inr (inr (inl refl)) })
      (ap (λ (j : Job). j.status) e) (ap (λ (j : Job). j.line) e)
  run_way job (spent printed is e) =
      refuses (record { status = 7; line = [] })
      (record { cause = goes_on_after m steps runs (ap (λ (s : Seen). s.stand) is) refl; status = own 7 (inr (inl refl)); refusal = inr (inr (inr (inl refl))) })
      (ap (λ (j : Job). j.status) e) (ap (λ (j : Job). j.line) e)

module _ (told : List NamedFile) (lin unr steps : ℕ) (source : Source) where
  abbrev the_run : Command
  the_run = run lin unr steps source

  abbrev run_pages : Pages
  run_pages = record { lin = lin; unr = unr }

  run_one : AreOf the_run (1 ∷ 3 ∷ [])
  run_one n (inl e) = inr (inl e)
  run_one n (inr (inl e)) = inr (inr (inl e))
  run_one n (inr (inr none)) = absurd none

  run_six : AreOf the_run (6 ∷ 7 ∷ [])
  run_six n (inl e) = inr (inr (inr (inl e)))
  run_six n (inr (inl e)) = inr (inr (inr (inr (inl e))))
  run_six n (inr (inr none)) = absurd none

  run_ten : AreOf the_run (10 ∷ 11 ∷ [])
  run_ten n (inl e) = inr (inr (inr (inr (inr (inl e)))))
  run_ten n (inr (inl e)) = inr (inr (inr (inr (inr (inr (inl e))))))
  run_ten n (inr (inr none)) = absurd none

  program_run_way : (job : Job) → ProgramRunReports run_pages steps (source ∷ []) told job → Comes told the_run job
  program_run_way job (stops refused files e) = refusal_comes told the_run job refused (of_files told the_run source refl refl run_one run_pages refl refl run_ten refused files) e
  program_run_way job (goes_on program leads (stops refused program_leads e)) =
      refusal_comes told the_run job refused (of_lowered told the_run source refl refl run_one run_pages refl refl run_ten program refused leads program_leads) e
  program_run_way job (goes_on program leads (goes_on binary program_leads is)) =
      run_way told the_run (low_module program run_pages) steps (of_program lin unr source program refl leads refl) run_six job is

module _ (told : List NamedFile) (steps : ℕ) (file : List ℕ) where
  abbrev the_execution : Command
  the_execution = exec steps file

  exec_three : AreOf the_execution (3 ∷ 9 ∷ [])
  exec_three n (inl e) = inr (inl e)
  exec_three n (inr (inl e)) = inr (inr (inr (inr (inl e))))
  exec_three n (inr (inr none)) = absurd none

  exec_six : AreOf the_execution (6 ∷ 7 ∷ [])
  exec_six n (inl e) = inr (inr (inl e))
  exec_six n (inr (inl e)) = inr (inr (inr (inl e)))
  exec_six n (inr (inr none)) = absurd none

  nine : (refused : Refused) → Cause told the_execution refused → refused.status ≡ 9 → Refuses told the_execution refused
  nine refused why status = record { cause = why; status = inr (inr (inr (inr (inl status)))); refusal = inr (inr (inr (inr (inl status)))) }

  spells : (bytes : List ℕ) (m : WModule) → BinaryDecodes file bytes (Ok m) → SpellsModule bytes m
  spells bytes m (decoded n is e) = subst (SpellsModule bytes) (sym (same_value m n e)) is
  spells bytes m (malformed f first e) = absurd (not_both m _ e)

  of_validation : (bytes : List ℕ) (m : WModule) (refused : Refused) → FileLoads told file (Ok bytes) → SpellsModule bytes m → ModuleValidates file m (Err refused) → Refuses told the_execution refused
  of_validation bytes m refused load is (valid sound e) = absurd (not_both m refused (sym e))
  of_validation bytes m refused load is (invalid v first e) =
      let same = same_refused refused (invalid_refusal file v) e in
      nine refused (breaks_rule steps file bytes m v refl load is first same) (ap (λ (q : Refused). q.status) same)

  start_status : (m : WModule) (refused : Refused) → ModuleStarts file m (Err refused) → refused.status ≡ 9
  start_status m refused (begins first is e) = absurd (not_both m refused (sym e))
  start_status m refused (unknown_import i is e) = ap (λ (q : Refused). q.status) (same_refused refused _ e)
  start_status m refused (segment_out i is e) = ap (λ (q : Refused). q.status) (same_refused refused _ e)
  start_status m refused (no_exported_main is e) = ap (λ (q : Refused). q.status) (same_refused refused _ e)

  of_start : (bytes : List ℕ) (m n : WModule) (refused : Refused) → FileLoads told file (Ok bytes) → SpellsModule bytes m → ModuleValidates file m (Ok n) → ModuleStarts file n (Err refused) → Refuses told the_execution refused
  of_start bytes m n refused load is (invalid v first e) starts = absurd (not_both n _ e)
  of_start bytes m n refused load is (valid sound e) starts =
      let same = same_value n m e in
      nine refused (not_started steps file bytes n refl load (subst (SpellsModule bytes) (sym same) is) (subst wasm_typing.IsValid (sym same) sound) starts) (start_status n refused starts)

  pub of_executable : (refused : Refused) → ExecutableLeads told file (Err refused) → Refuses told the_execution refused
  of_executable refused (stops r load e) = subst (Refuses told the_execution) (sym (same_refused refused r e)) (of_file told the_execution file refl refl exec_three r load)
  of_executable refused (goes_on bytes load (stops r decodes e)) = subst (Refuses told the_execution) (sym (same_refused refused r e)) (of_decoding told the_execution file refl refl exec_three bytes r load decodes)
  of_executable refused (goes_on bytes load (goes_on m decodes (stops r validates e))) = subst (Refuses told the_execution) (sym (same_refused refused r e)) (of_validation bytes m r load (spells bytes m decodes) validates)
  of_executable refused (goes_on bytes load (goes_on m decodes (goes_on n validates starts))) = of_start bytes m n refused load (spells bytes m decodes) validates starts

  execution_way : (job : Job) → ExecutionReports steps file told job → Comes told the_execution job
  execution_way job (stops refused leads e) = refusal_comes told the_execution job refused (of_executable refused leads) e
  execution_way job (goes_on m leads is) = run_way told the_execution m steps (of_binary file refl leads) exec_six job is

module _ (told : List NamedFile) (source : Source) where
  abbrev the_showing : Command
  the_showing = show source

  show_one : AreOf the_showing (1 ∷ 3 ∷ [])
  show_one n (inl e) = inr (inl e)
  show_one n (inr (inl e)) = inr (inr (inl e))
  show_one n (inr (inr none)) = absurd none

  show_way : (job : Job) → ShowReports source told job → Comes told the_showing job
  show_way job (goes_on m leads e) = is_done (ap (λ (j : Job). j.status) e)
  show_way job (stops refused (stops r load f) e) =
      refusal_comes told the_showing job refused (subst (Refuses told the_showing) (sym (same_refused refused r f)) (of_load told the_showing source refl refl show_one r (stops r load refl))) e
  show_way job (stops refused (goes_on bytes load text) e) = refusal_comes told the_showing job refused (of_text told the_showing source refl refl show_one bytes refused load text) e

module _ (told : List NamedFile) (file : List ℕ) where
  dump_three : AreOf (dump file) (3 ∷ 9 ∷ [])
  dump_three n (inl e) = inr (inl e)
  dump_three n (inr (inl e)) = inr (inr (inl e))
  dump_three n (inr (inr none)) = absurd none

  pub of_dumped_file : (refused : Refused) → FileLoads told file (Err refused) → Refuses told (dump file) refused
  of_dumped_file = of_file told (dump file) file refl refl dump_three

  pub of_dumped_binary : (bytes : List ℕ) (refused : Refused) → FileLoads told file (Ok bytes) → BinaryDecodes file bytes (Err refused) → Refuses told (dump file) refused
  of_dumped_binary = of_decoding told (dump file) file refl refl dump_three

  dump_way : (job : Job) → DumpComes told file job → Comes told (dump file) job
  dump_way job (refused_file refused load e) = refusal_comes told (dump file) job refused (of_dumped_file refused load) e
  dump_way job (refused_binary bytes refused load decodes e) = refusal_comes told (dump file) job refused (of_dumped_binary bytes refused load decodes) e
  dump_way job (is_dumped bytes m load decodes e) = is_done (ap (λ (j : Job). j.status) e)

pub comes : (told : List NamedFile) (command : Command) (job : Job) → CommandReports (Some command) told job → Comes told command job
comes told (build lin unr name source) job reports = build_way lin unr name source told job (build_comes told lin unr name source job reports)
comes told (run lin unr steps source) job reports = program_run_way told lin unr steps source job reports
comes told (exec steps file) job reports = execution_way told steps file job reports
comes told (show source) job reports = show_way told source job reports
comes told (dump file) job reports = dump_way told file job (dump_comes told file job reports)

status_zero : (command : Command) (job : Job) → job.status ≡ 0 → IsOneOf (statuses_of (Some command)) job.status
status_zero (build lin unr name source) job zero = inl zero
status_zero (run lin unr steps source) job zero = inl zero
status_zero (exec steps file) job zero = inl zero
status_zero (show source) job zero = inl zero
status_zero (dump file) job zero = inl zero

command_status : (command : Command) (told : List NamedFile) (job : Job) → Comes told command job → IsOneOf (statuses_of (Some command)) job.status
command_status command told job (is_done zero) = status_zero command job zero
command_status command told job (refuses refused r same says) = subst (λ (s : ℕ). IsOneOf (statuses_of (Some command)) s) (sym same) r.status

-- the status of a job is one of its command's
pub job_status : (command : Option Command) (told : List NamedFile) (job : Job) → CommandReports command told job → IsOneOf (statuses_of command) job.status
job_status None told job is = inl (ap (λ (j : Job). j.status) is)
job_status (Some command) told job reports = command_status command told job (comes told command job reports)
