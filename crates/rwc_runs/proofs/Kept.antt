-- What the commands that run a binary keep to, from what its execution answered.
use Rattle.std.proofs.Common.{◌≡◌, ◌∙◌, inl, inr, ℕ, List, [], ◌∷◌, refl, ap, sym, subst, Ok, Err}
use Rattle.std.specs.Prelude.{Vec}
use Rattle.std.specs.declared.alloc.Global.{Global}
use Rattle.std.specs.declared.option.Option.{Option}
use Rattle.std.specs.declared.result.Result.{Result}
use Rattle.lowering_table.specs.declared.Pages.{Pages}
use Rattle.lowering_table.specs.Modules.{ArePages, low_module}
use Rattle.rw_io.specs.Files.{NamedFile}
use Rattle.rw_io.specs.States.{Holding, ShelfState, SinkState}
use Rattle.rw_program.specs.Programs.{Program}
use Rattle.wasm_ast.specs.declared.modules.WModule.{WModule}
use Rattle.wasm_execution.specs.Behaviour.{wasm}
use Rattle.words.specs.Words.{Source}
use Rattle.rwc_acts.specs.declared.ending.Done.{Done}
use Rattle.rwc_acts.specs.declared.ending.Done.TheVariants.{Finished, Trapped, Spent}
use Rattle.rwc_acts.specs.declared.ending.Stop.{Stop}
use Rattle.rwc_acts.specs.declared.ending.Stop.TheVariants.{Refused as IsRefused, Unread, Unwritten, Memory}
use Rattle.rwc_acts.specs.Kept.{LoadsTo, EndsBy, KeepsJob}
use Rattle.rwc_acts.specs.Stops.{IfStopped, done_status, bytes_of}
use Rattle.rwc_reports.specs.Acts.{Outside, outside_of}
use Rattle.rwc_reports.specs.Binaries.{BinaryDecodes, ProgramLeads, IsLoneBinary}
use Rattle.rwc_reports.specs.Endings.{KeepsTo, carries_out, unread, unbegun}
use Rattle.rwc_reports.specs.Executables.{ModuleRuns}
use Rattle.rwc_reports.specs.Executions.{ExecutionReports, ProgramRunReports}
use Rattle.rwc_reports.specs.Jobs.{Job, refusal_job, JobOf}
use Rattle.rwc_reports.specs.Reports.{BinaryLeads}
use Rattle.rwc_reports.specs.Runs.{RunReports}
use Rattle.rwc_reports.specs.Sources.{FileLoads, FilesLead}
use Rattle.rwc_reports.specs.Steps.{Refused, Onward, goes_on, stops, IsOneOf}
use Rattle.rwc_reports.proofs.Executions.{running_status, lone_runs, program_bytes}
use Rattle.rwc_reports.proofs.LonePrograms.{leads_to_lone}
use Rattle.rwc_reports.proofs.Steps.{same_value, same_refused, not_both}
use Rattle.rwc_runs.specs.Executions.{PutRose, Executes}

-- what was kept to a job without files was kept to it among others, from another outside that is the same
keeps_among : (Jobs Others : Job → Type 0) (files : List (List ℕ)) (before earlier after : Outside) (status : ℕ) (line : List ℕ) → before ≡ earlier → ((job : Job) → Jobs job → Others job) → KeepsTo Jobs [] before after status line → KeepsTo Others files earlier after status line
keeps_among Jobs Others files before earlier after status line same also keeps = subst (λ (o : Outside). KeepsTo Others files o after status line) same (among keeps)
  where
    among : KeepsTo Jobs [] before after status line → KeepsTo Others files before after status line
    among (carries_out job is how) = carries_out job (also job is) how
    among (unread file none same four says) = absurd none
    among (unbegun same eight says) = unbegun same eight says

module _ (shelf mid : ShelfState) (out out' : SinkState) (same : mid.holding ≡ shelf.holding) where
  with_holding : outside_of mid out ≡ outside_of shelf out
  with_holding = ap (λ (h : Holding). let o : Outside = record { holding = h; out = out.bytes } in o) same

  unchanged : out'.bytes ≡ out.bytes → outside_of mid out' ≡ outside_of shelf out
  unchanged none = ap (λ (known : Option (List ℕ)). let o : Outside = record { holding = mid.holding; out = known } in o) none ∙ with_holding

  -- how an execution ended, with nothing created
  ends : (Leads : Result WModule Refused → Type 0) (files : List (List ℕ)) (statuses : List ℕ) (result : Result Done Stop) → ((how : Done) → IsOneOf statuses (done_status how)) → ((refused : Refused) → Leads (Err refused) → IsOneOf statuses refused.status) →
      IfStopped result (λ status line. Leads (Err (record { status = status; line = line })) × (out'.bytes ≡ out.bytes)) (λ _. ⊥) (λ _. PutRose out out') → EndsBy files statuses shelf mid out out' result
  ends Leads files statuses (Ok how) done listed h = (done how, λ _. same)
  ends Leads files statuses (Err (IsRefused status line)) done listed h = (listed _ h.0, unchanged h.1)
  ends Leads files statuses (Err (Unread line)) done listed h = absurd h
  ends Leads files statuses (Err (Unwritten line)) done listed h = inr (inr h)
  ends Leads files statuses (Err Memory) done listed h = tt

exec_done : (how : Done) → IsOneOf (0 ∷ 3 ∷ 6 ∷ 7 ∷ 9 ∷ []) (done_status how)
exec_done Finished = inl refl
exec_done Trapped = inr (inr (inl refl))
exec_done Spent = inr (inr (inr (inl refl)))

-- a binary that was loaded was executed
pub executed : (file : List ℕ) (steps : ℕ) (shelf mid : ShelfState) (out out' : SinkState) (bytes : Vec ℕ Global) (result : Result Done Stop) → LoadsTo bytes_of (λ told. FileLoads told file) (3 ∷ []) file shelf mid (Ok bytes) →
    Executes (Onward (BinaryDecodes file bytes.items) (ModuleRuns file)) steps out out' result → KeepsJob (ExecutionReports steps file) (file ∷ []) (0 ∷ 3 ∷ 6 ∷ 7 ∷ 9 ∷ []) shelf mid out out' result
executed file steps shelf mid out out' bytes result l e = record {
  keeps = λ told is. keeps_among (λ job. JobOf (Onward (BinaryDecodes file bytes.items) (ModuleRuns file)) (λ m. RunReports (wasm m) steps) job) (ExecutionReports steps file told) (file ∷ []) (outside_of mid out) (outside_of shelf out) _ _ _
      (with_holding shelf mid out out' l.same) (λ job. loaded told (l.leads told is) job) (e.keeps mid);
  cause = ends shelf mid out out' l.same (Onward (BinaryDecodes file bytes.items) (ModuleRuns file)) (file ∷ []) (0 ∷ 3 ∷ 6 ∷ 7 ∷ 9 ∷ []) result exec_done
      (λ refused leads. inr (inr (inr (inr (inl (running_status file bytes.items refused leads)))))) e.cause;
}
  where
    loaded : (told : List NamedFile) → FileLoads told file (Ok bytes.items) → (job : Job) → JobOf (Onward (BinaryDecodes file bytes.items) (ModuleRuns file)) (λ m. RunReports (wasm m) steps) job → ExecutionReports steps file told job
    loaded told load job (goes_on m leads run) = goes_on m (goes_on bytes.items load leads) run
    loaded told load job (stops r leads is) = stops r (goes_on bytes.items load leads) is

run_done : (how : Done) → IsOneOf (0 ∷ 1 ∷ 3 ∷ 6 ∷ 7 ∷ 10 ∷ 11 ∷ []) (done_status how)
run_done Finished = inl refl
run_done Trapped = inr (inr (inr (inl refl)))
run_done Spent = inr (inr (inr (inr (inl refl))))

module _ (pages : Pages) (are : ArePages pages) (steps : ℕ) (source : Source) where
  -- a refusal of the binary is the run's
  pub run_refused : (told : List NamedFile) (refused : Refused) → BinaryLeads told (source ∷ []) pages (Err refused) → ProgramRunReports pages steps (source ∷ []) told (refusal_job refused)
  run_refused told refused (goes_on program leads is) = goes_on program leads (stops refused is refl)
  run_refused told refused (stops q files e) = stops q files (ap refusal_job (same_refused refused q e))

  -- the bytes of a program of today lead to its lowered module alone
  lone_leads : (bytes : List ℕ) (r : Result WModule Refused) → (b : IsLoneBinary pages bytes) → Onward (BinaryDecodes source.file bytes) (ModuleRuns source.file) r → r ≡ Ok (low_module b.program pages)
  lone_leads bytes r b leads = lone_runs pages are source.file b.program b.lone r (subst (λ (own : List ℕ). Onward (BinaryDecodes source.file own) (ModuleRuns source.file) r) b.is leads)

  never_refused : (bytes : List ℕ) (refused : Refused) → IsLoneBinary pages bytes → Onward (BinaryDecodes source.file bytes) (ModuleRuns source.file) (Err refused) → ⊥
  never_refused bytes refused b leads = not_both (low_module b.program pages) refused (sym (lone_leads bytes (Err refused) b leads))

  -- the binary of a program was executed
  pub ran : (shelf mid : ShelfState) (out out' : SinkState) (bytes : Vec ℕ Global) (result : Result Done Stop) → LoadsTo bytes_of (λ told. BinaryLeads told (source ∷ []) pages) (1 ∷ 3 ∷ 11 ∷ []) source.file shelf mid (Ok bytes) → IsLoneBinary pages bytes.items →
      Executes (Onward (BinaryDecodes source.file bytes.items) (ModuleRuns source.file)) steps out out' result → KeepsJob (ProgramRunReports pages steps (source ∷ [])) (source.file ∷ []) (0 ∷ 1 ∷ 3 ∷ 6 ∷ 7 ∷ 10 ∷ 11 ∷ []) shelf mid out out' result
  ran shelf mid out out' bytes result l b e = record {
    keeps = λ told is. keeps_among (λ job. JobOf (Onward (BinaryDecodes source.file bytes.items) (ModuleRuns source.file)) (λ m. RunReports (wasm m) steps) job) (ProgramRunReports pages steps (source ∷ []) told) (source.file ∷ [])
        (outside_of mid out) (outside_of shelf out) _ _ _ (with_holding shelf mid out out' l.same) (λ job. led told (l.leads told is) job) (e.keeps mid);
    cause = ends shelf mid out out' l.same (Onward (BinaryDecodes source.file bytes.items) (ModuleRuns source.file)) (source.file ∷ []) (0 ∷ 1 ∷ 3 ∷ 6 ∷ 7 ∷ 10 ∷ 11 ∷ []) result run_done
        (λ refused leads. absurd (never_refused bytes.items refused b leads)) e.cause;
  }
    where
      own : (told : List NamedFile) (program : Program) → FilesLead told (source ∷ []) (Ok program) → ProgramLeads pages program (Ok bytes.items) → IsLoneBinary pages bytes.items
      own told program leads is = record { program = program; lone = leads_to_lone told source program leads; is = program_bytes pages are program bytes.items is }

      led : (told : List NamedFile) → BinaryLeads told (source ∷ []) pages (Ok bytes.items) → (job : Job) → JobOf (Onward (BinaryDecodes source.file bytes.items) (ModuleRuns source.file)) (λ m. RunReports (wasm m) steps) job → ProgramRunReports pages steps (source ∷ []) told job
      led told (stops r files f) job run = absurd (not_both bytes.items r f)
      led told (goes_on program leads is) job (stops r l f) = absurd (never_refused bytes.items r (own told program leads is) l)
      led told (goes_on program leads is) job (goes_on m l run) =
          goes_on program leads (goes_on bytes.items is (subst (λ (n : WModule). RunReports (wasm n) steps job) (same_value m (low_module program pages) (lone_leads bytes.items (Ok m) (own told program leads is) l)) run))
