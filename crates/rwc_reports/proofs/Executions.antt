-- The execution of a told binary, and of a program as its lowered module, have one job each, of the statuses listed.
use Rattle.std.proofs.Common.{◌≡◌, ◌∙◌, ◌⊎◌, inl, inr, ℕ, List, [], ◌∷◌, refl, ap, sym, subst, Ok, Err}
use Rattle.std.specs.Prelude.{◌++◌, codes, decimal}
use Rattle.std.specs.declared.result.Result.{Result}
use Rattle.wasm_ast.specs.declared.modules.WModule.{WModule}
use Rattle.wasm_grammar.specs.CanonicalModules.{module_bytes}
use Rattle.wasm_grammar.specs.GrammarModules.{SpellsModule}
use Rattle.wasm_grammar.specs.Profile.{IsInProfile}
use Rattle.wasm_spelling.proofs.SpelledModules.{canonical_bytes_spell}
use Rattle.wasm_typing.specs.Modules.{IsValid, Violation}
use Rattle.wasm_typing_laws.proofs.Modules.{never_both, one, valid_or_violated}
use Rattle.wasm_soundness.proofs.Starts.{valid_never_stuck}
use Rattle.wasm_execution.specs.Behaviour.{wasm}
use Rattle.wasm_execution.specs.Configurations.{Config}
use Rattle.wasm_execution.specs.Starts.{Start, UnknownImport, SegmentOut, NoMain, NoStartFunction, Begins, start_of}
use Rattle.rw_program.specs.LonePrograms.{IsLoneProgram}
use Rattle.rw_program.specs.Programs.{Program}
use Rattle.lowering_table.specs.declared.Pages.{Pages}
use Rattle.lowering_table.specs.Modules.{ArePages, low_module}
use Rattle.lowering_validity.proofs.Valid.{low_is_valid}
use Rattle.lowering_validity.proofs.Starting.{low_starts}
use Rattle.lower.proofs.Fitting.{low_is_in_profile}
use Rattle.lower.proofs.ShortContents.{low_has_short_contents}
use Rattle.machine_steps.specs.Ending.{NeverStuck}
use Rattle.rw_io.specs.Files.{NamedFile}
use Rattle.words.specs.Words.{Source}
use Rattle.rwc_reports.specs.Binaries.{ProgramLeads, ModuleEncodes, encoded, too_long, BinaryDecodes, decoded, malformed}
use Rattle.rwc_reports.specs.Executables.{ModuleValidates, valid, invalid, invalid_refusal, ModuleStarts, begins, unknown_import, segment_out, no_exported_main, start_refusal, ModuleRuns, ExecutableLeads}
use Rattle.rwc_reports.specs.Executions.{ExecutionReports, ProgramRunReports}
use Rattle.rwc_reports.specs.ExecutionLaws.{OneExecution, OneProgramRun, BinariesRun}
use Rattle.rwc_reports.specs.Jobs.{Job, refusal_job}
use Rattle.rwc_reports.specs.Laws.{AreOfBytes}
use Rattle.rwc_reports.specs.Runs.{RunReports}
use Rattle.rwc_reports.specs.Sources.{FileLoads, FilesLead}
use Rattle.rwc_reports.specs.Steps.{Refused, Onward, Then, goes_on, stops, IsOneOf}
use Rattle.rwc_reports.proofs.Causes.{load_status, decode_status, encode_status}
use Rattle.rwc_reports.proofs.LonePrograms.{leads_to_lone, files_status}
use Rattle.rwc_reports.proofs.OneAnswer.{one_load, one_decoding, one_program, one_binary}
use Rattle.rwc_reports.proofs.Runs.{one_run, run_status, some_run, wasm_stays}
use Rattle.rwc_reports.proofs.SomeAnswer.{some_load, load_bytes, some_decoding, some_program, some_binary}
use Rattle.rwc_reports.proofs.Starting.{start_is_called}
use Rattle.rwc_reports.proofs.Steps.{same_value, same_refused, not_both, one_then, some_then}

one_validation : (file : List ℕ) (m : WModule) (r s : Result WModule Refused) → ModuleValidates file m r → ModuleValidates file m s → r ≡ s
one_validation file m r s (valid is x) (valid also y) = x ∙ sym y
one_validation file m r s (valid is x) (invalid v first y) = absurd (never_both m v is first)
one_validation file m r s (invalid v first x) (valid is y) = absurd (never_both m v is first)
one_validation file m r s (invalid v first x) (invalid w second y) =
    x ∙ ap (λ (u : Violation). let o : Result WModule Refused = Err (invalid_refusal file u) in o) (one m v w first second) ∙ sym y

some_validation : (file : List ℕ) (m : WModule) → (r : Result WModule Refused) × ModuleValidates file m r
some_validation file m = elim (valid_or_violated m) [ inl is ↦ (_, valid is refl) | inr (v, first) ↦ (_, invalid v first refl) ]

-- what a module that starts so leads to
abbrev start_result : List ℕ → WModule → Start → Result WModule Refused
start_result file m (Begins first) = Ok m
start_result file m (UnknownImport i) = Err (start_refusal file (codes "import " ++ decimal i))
start_result file m (SegmentOut i) = Err (start_refusal file (codes "segment " ++ decimal i))
start_result file m NoMain = Err (start_refusal file (codes "no main"))
start_result file m NoStartFunction = Ok m

by_start : (file : List ℕ) (m : WModule) (r : Result WModule Refused) → ModuleStarts file m r → r ≡ start_result file m (start_of m)
by_start file m r (begins first is e) = e ∙ ap (start_result file m) (sym is)
by_start file m r (unknown_import i is e) = e ∙ ap (start_result file m) (sym is)
by_start file m r (segment_out i is e) = e ∙ ap (start_result file m) (sym is)
by_start file m r (no_exported_main is e) = e ∙ ap (start_result file m) (sym is)

one_start : (file : List ℕ) (m : WModule) (r s : Result WModule Refused) → ModuleStarts file m r → ModuleStarts file m s → r ≡ s
one_start file m r s a b = by_start file m r a ∙ sym (by_start file m s b)

some_start : (file : List ℕ) (m : WModule) → IsValid m → IsInProfile m → (r : Result WModule Refused) × ModuleStarts file m r
some_start file m is fits = of_start (start_of m) refl
  where
    of_start : (s : Start) → start_of m ≡ s → (r : Result WModule Refused) × ModuleStarts file m r
    of_start (Begins first) e = (_, begins first e refl)
    of_start (UnknownImport i) e = (_, unknown_import i e refl)
    of_start (SegmentOut i) e = (_, segment_out i e refl)
    of_start NoMain e = (_, no_exported_main e refl)
    of_start NoStartFunction e = absurd (start_is_called m is fits e)

one_running : (file : List ℕ) (m : WModule) (r s : Result WModule Refused) → ModuleRuns file m r → ModuleRuns file m s → r ≡ s
one_running file m r s a b = one_then (λ refused. Err refused) (ModuleValidates file m) (ModuleStarts file) (one_validation file m) (λ n is. one_start file n) r s a b

decoded_spells : (file bytes : List ℕ) (m : WModule) → BinaryDecodes file bytes (Ok m) → SpellsModule bytes m
decoded_spells file bytes m (decoded n is e) = subst (SpellsModule bytes) (sym (same_value m n e)) is
decoded_spells file bytes m (malformed f first e) = absurd (not_both m _ e)

validated : (file : List ℕ) (m n : WModule) → ModuleValidates file m (Ok n) → (n ≡ m) × IsValid m
validated file m n (valid is e) = (same_value n m e, is)
validated file m n (invalid v first e) = absurd (not_both n _ e)

some_running : (file : List ℕ) (m : WModule) → IsInProfile m → (r : Result WModule Refused) × ModuleRuns file m r
some_running file m fits =
    some_then (λ refused. Err refused) (ModuleValidates file m) (ModuleStarts file) (some_validation file m)
    (λ n is. let v = validated file m n is in some_start file n (subst IsValid (sym v.0) v.1) (subst IsInProfile (sym v.0) fits))

-- a module that can run
record CanRun (m : WModule) : Type 0 where
  is_valid : IsValid m
  fits : IsInProfile m
  first : Config
  starts : start_of m ≡ Begins first

never_stuck : (m : WModule) → CanRun m → NeverStuck (wasm m)
never_stuck m can = valid_never_stuck m can.first can.is_valid can.fits can.starts

started : (file : List ℕ) (m n : WModule) → ModuleStarts file m (Ok n) → (n ≡ m) × ((first : Config) × (start_of m ≡ Begins first))
started file m n (begins first is e) = (same_value n m e, (first, is))
started file m n (unknown_import i is e) = absurd (not_both n _ e)
started file m n (segment_out i is e) = absurd (not_both n _ e)
started file m n (no_exported_main is e) = absurd (not_both n _ e)

running_can : (file : List ℕ) (m n : WModule) → IsInProfile m → ModuleRuns file m (Ok n) → CanRun n
running_can file m n fits (stops r f e) = absurd (not_both n r e)
running_can file m n fits (goes_on k v s) =
    let a = validated file m k v in
    let b = started file k n s in
    let same : n ≡ m = b.0 ∙ a.0 in
    subst CanRun (sym same) (record { is_valid = a.1; fits = fits; first = b.1.0; starts = ap start_of (sym a.0) ∙ b.1.1 })

module _ (told : List NamedFile) (file : List ℕ) where
  one_executable : (r s : Result WModule Refused) → ExecutableLeads told file r → ExecutableLeads told file s → r ≡ s
  one_executable r s a b =
      one_then (λ refused. Err refused) (FileLoads told file) (λ bytes. Onward (BinaryDecodes file bytes) (ModuleRuns file)) (one_load told file)
      (λ bytes is. one_then (λ refused. Err refused) (BinaryDecodes file bytes) (ModuleRuns file) (one_decoding file bytes) (λ m also. one_running file m)) r s a b

  some_executable : AreOfBytes told → (r : Result WModule Refused) × ExecutableLeads told file r
  some_executable all =
      some_then (λ refused. Err refused) (FileLoads told file) (λ bytes. Onward (BinaryDecodes file bytes) (ModuleRuns file)) (some_load told file)
      (λ bytes is. some_then (λ refused. Err refused) (BinaryDecodes file bytes) (ModuleRuns file) (some_decoding file bytes (load_bytes told file bytes all is))
      (λ m also. some_running file m (decoded_spells file bytes m also).profile))

  executable_can : (m : WModule) → ExecutableLeads told file (Ok m) → CanRun m
  executable_can m (stops r f e) = absurd (not_both m r e)
  executable_can m (goes_on bytes load (stops r f e)) = absurd (not_both m r e)
  executable_can m (goes_on bytes load (goes_on n decodes runs)) = running_can file n m (decoded_spells file bytes n decodes).profile runs

-- the statuses of refusals
abbrev HasStatus : ℕ → Refused → Type 0
HasStatus n refused = refused.status ≡ n

handed : {A : Type 0} (refused r : Refused) (n : ℕ) → (let o : Result A Refused = Err refused in o) ≡ Err r → HasStatus n r → HasStatus n refused
handed refused r n e is = ap (λ (q : Refused). q.status) (same_refused refused r e) ∙ is

nine : (file : List ℕ) (m : WModule) (refused : Refused) → ModuleRuns file m (Err refused) → HasStatus 9 refused
nine file m refused (stops r (valid is f) e) = absurd (not_both m r (sym f))
nine file m refused (stops r (invalid v first f) e) = handed refused r 9 e (handed r _ 9 f refl)
nine file m refused (goes_on n v (begins first is e)) = absurd (not_both n refused (sym e))
nine file m refused (goes_on n v (unknown_import i is e)) = handed refused _ 9 e refl
nine file m refused (goes_on n v (segment_out i is e)) = handed refused _ 9 e refl
nine file m refused (goes_on n v (no_exported_main is e)) = handed refused _ 9 e refl

-- bytes that do not run are refused with 9
pub running_status : (file bytes : List ℕ) (refused : Refused) → Onward (BinaryDecodes file bytes) (ModuleRuns file) (Err refused) → refused.status ≡ 9
running_status file bytes refused (stops r decodes e) = handed refused r 9 e (decode_status file bytes r decodes)
running_status file bytes refused (goes_on m decodes runs) = nine file m refused runs

executable_status : (told : List NamedFile) (file : List ℕ) (refused : Refused) → ExecutableLeads told file (Err refused) → HasStatus 3 refused ⊎ HasStatus 9 refused
executable_status told file refused (stops r load e) = inl (handed refused r 3 e (load_status told file r load))
executable_status told file refused (goes_on bytes load (stops r decodes e)) = inr (handed refused r 9 e (decode_status file bytes r decodes))
executable_status told file refused (goes_on bytes load (goes_on m decodes runs)) = inr (nine file m refused runs)

execution_status : (told : List NamedFile) (file : List ℕ) (steps : ℕ) (job : Job) → ExecutionReports steps file told job → IsOneOf (0 ∷ 3 ∷ 6 ∷ 7 ∷ 9 ∷ []) job.status
execution_status told file steps job (stops r leads e) =
    let same : job.status ≡ r.status = ap (λ (j : Job). j.status) e in
    elim (executable_status told file r leads) [ inl three ↦ inr (inl (same ∙ three)) | inr nine ↦ inr (inr (inr (inr (inl (same ∙ nine))))) ]
execution_status told file steps job (goes_on m leads run) = of_run (run_status (wasm m) steps job run)
  where
    of_run : IsOneOf (0 ∷ 6 ∷ 7 ∷ []) job.status → IsOneOf (0 ∷ 3 ∷ 6 ∷ 7 ∷ 9 ∷ []) job.status
    of_run (inl e) = inl e
    of_run (inr (inl e)) = inr (inr (inl e))
    of_run (inr (inr (inl e))) = inr (inr (inr (inl e)))
    of_run (inr (inr (inr none))) = absurd none

module _ (steps : ℕ) (file : List ℕ) where
  pub some_execution_job : (told : List NamedFile) → AreOfBytes told → (job : Job) × ExecutionReports steps file told job
  some_execution_job told all = some_then refusal_job (ExecutableLeads told file) (λ m. RunReports (wasm m) steps) (some_executable told file all) (λ m is. some_run (wasm m) (never_stuck m (executable_can told file m is)) steps)

  pub one_execution_job : (told : List NamedFile) (a b : Job) → ExecutionReports steps file told a → ExecutionReports steps file told b → a ≡ b
  one_execution_job told a b = one_then refusal_job (ExecutableLeads told file) (λ m. RunReports (wasm m) steps) (one_executable told file) (λ m is. one_run (wasm m) (wasm_stays m) steps) a b

pub one_execution : OneExecution
one_execution steps file = record { some = some_execution_job steps file; one = one_execution_job steps file; status = λ told job. execution_status told file steps job }

module _ (pages : Pages) (are : ArePages pages) where
  lone_can : (program : Program) → IsLoneProgram program → CanRun (low_module program pages)
  lone_can program lone =
      let begins = low_starts program pages lone are in
      record { is_valid = low_is_valid program pages lone are; fits = low_is_in_profile program pages lone are; first = begins.0; starts = begins.1 }

  lowered_can : (told : List NamedFile) (source : Source) (program : Program) → FilesLead told (source ∷ []) (Ok program) → CanRun (low_module program pages)
  lowered_can told source program leads = lone_can program (leads_to_lone told source program leads)

  -- the binary of a program leads to its lowered module, and is never refused
  pub lone_runs : (file : List ℕ) (program : Program) → IsLoneProgram program → (r : Result WModule Refused) → Onward (BinaryDecodes file (module_bytes (low_module program pages))) (ModuleRuns file) r → r ≡ Ok (low_module program pages)
  lone_runs file program lone r leads =
      let m = low_module program pages in
      let can = lone_can program lone in
      let spells = canonical_bytes_spell m (low_is_in_profile program pages lone are) (low_has_short_contents program pages lone are) in
      one_then (λ refused. Err refused) (BinaryDecodes file (module_bytes m)) (ModuleRuns file) (one_decoding file (module_bytes m)) (λ n also. one_running file n) r (Ok m)
      leads (goes_on m (decoded m spells refl) (goes_on m (valid can.is_valid refl) (begins can.first can.starts refl)))

  encoded_bytes : (m : WModule) (binary : List ℕ) → ModuleEncodes m (Ok binary) → binary ≡ module_bytes m
  encoded_bytes m binary (encoded short e) = same_value binary (module_bytes m) e
  encoded_bytes m binary (too_long id first e) = absurd (not_both binary _ e)

  pub program_bytes : (program : Program) (binary : List ℕ) → ProgramLeads pages program (Ok binary) → binary ≡ module_bytes (low_module program pages)
  program_bytes program binary (stops r low e) = absurd (not_both binary r e)
  program_bytes program binary (goes_on m low encodes) = encoded_bytes m binary encodes ∙ ap module_bytes (same_value m (low_module program pages) low)

  program_status : (program : Program) (refused : Refused) → ProgramLeads pages program (Err refused) → HasStatus 11 refused
  program_status program refused (stops r low e) = absurd (not_both (low_module program pages) r (sym low))
  program_status program refused (goes_on m low encodes) = encode_status m refused encodes

  run_of_program_status : (program : Program) (steps : ℕ) (job : Job) → Then refusal_job (ProgramLeads pages program) (λ binary. RunReports (wasm (low_module program pages)) steps) job → IsOneOf (0 ∷ 1 ∷ 3 ∷ 6 ∷ 7 ∷ 10 ∷ 11 ∷ []) job.status
  run_of_program_status program steps job (stops r leads e) = inr (inr (inr (inr (inr (inr (inl (ap (λ (j : Job). j.status) e ∙ program_status program r leads)))))))
  run_of_program_status program steps job (goes_on binary leads run) = of_run (run_status (wasm (low_module program pages)) steps job run)
    where
      of_run : IsOneOf (0 ∷ 6 ∷ 7 ∷ []) job.status → IsOneOf (0 ∷ 1 ∷ 3 ∷ 6 ∷ 7 ∷ 10 ∷ 11 ∷ []) job.status
      of_run (inl e) = inl e
      of_run (inr (inl e)) = inr (inr (inr (inl e)))
      of_run (inr (inr (inl e))) = inr (inr (inr (inr (inl e))))
      of_run (inr (inr (inr none))) = absurd none

  program_run_status : (told : List NamedFile) (source : Source) (steps : ℕ) (job : Job) → ProgramRunReports pages steps (source ∷ []) told job → IsOneOf (0 ∷ 1 ∷ 3 ∷ 6 ∷ 7 ∷ 10 ∷ 11 ∷ []) job.status
  program_run_status told source steps job (stops r leads e) =
      let same : job.status ≡ r.status = ap (λ (j : Job). j.status) e in
      elim (files_status told source r leads) [ inl one ↦ inr (inl (same ∙ one)) | inr three ↦ inr (inr (inl (same ∙ three))) ]
  program_run_status told source steps job (goes_on program leads run) = run_of_program_status program steps job run

module _ (pages : Pages) (steps : ℕ) where
  pub one_program_job : (sources : List Source) (told : List NamedFile) (a b : Job) → ProgramRunReports pages steps sources told a → ProgramRunReports pages steps sources told b → a ≡ b
  one_program_job sources told a b = one_then refusal_job (FilesLead told sources) (λ program. Then refusal_job (ProgramLeads pages program) (λ binary. RunReports (wasm (low_module program pages)) steps)) (one_program told sources)
      (λ program is. one_then refusal_job (ProgramLeads pages program) (λ binary. RunReports (wasm (low_module program pages)) steps) (one_binary pages program)
      (λ binary also. one_run (wasm (low_module program pages)) (wasm_stays (low_module program pages)) steps)) a b

  pub some_program_job : (source : Source) → ArePages pages → (told : List NamedFile) → AreOfBytes told → (job : Job) × ProgramRunReports pages steps (source ∷ []) told job
  some_program_job source are told all = some_then refusal_job (FilesLead told (source ∷ [])) (λ program. Then refusal_job (ProgramLeads pages program) (λ binary. RunReports (wasm (low_module program pages)) steps)) (some_program told source)
      (λ program is. some_then refusal_job (ProgramLeads pages program) (λ binary. RunReports (wasm (low_module program pages)) steps) (some_binary pages program are (leads_to_lone told source program is))
      (λ binary also. some_run (wasm (low_module program pages)) (never_stuck (low_module program pages) (lowered_can pages are told source program is)) steps))

pub one_program_run : OneProgramRun
one_program_run pages steps source are = record { some = some_program_job pages steps source are; one = one_program_job pages steps (source ∷ []); status = λ told job. program_run_status pages are told source steps job }

pub binaries_run : BinariesRun
binaries_run told source pages program binary are leads encodes =
    let lone = leads_to_lone told source program leads in
    let m = low_module program pages in
    let can = lowered_can pages are told source program leads in
    record {
      spelled = subst (λ (bytes : List ℕ). SpellsModule bytes m) (sym (program_bytes pages are program binary encodes)) (canonical_bytes_spell m (low_is_in_profile program pages lone are) (low_has_short_contents program pages lone are));
      valid = can.is_valid;
      first = can.first;
      begins = can.starts;
    }
