-- The steps to an execution, one after another: each was refused, or goes on.
use Rattle.std.proofs.Common.{◌≡◌, ℕ, List, [], refl, sym, subst, string_bytes, Ok, Err}
use Rattle.std.specs.declared.result.Result.{Result}
use Rattle.wasm_ast.specs.declared.modules.WModule.{WModule}
use Rattle.wasm_execution.specs.Behaviour.{wasm}
use Rattle.wasm_grammar.specs.Profile.{IsInProfile}
use Rattle.wasm_typing.specs.Modules.{IsValid}
use Rattle.rw_io.specs.States.{SinkState}
use Rattle.rwc_acts.specs.declared.ending.Done.{Done}
use Rattle.rwc_acts.specs.declared.ending.Stop.{Stop}
use Rattle.rwc_acts.specs.declared.ending.Stop.TheVariants.{Refused as IsRefused, Unread, Unwritten, Memory}
use Rattle.rwc_acts.specs.Stops.{IfStopped, IsStep}
use Rattle.rwc_reports.specs.Acts.{Outside}
use Rattle.rwc_reports.specs.Endings.{KeepsTo, carries_out, unread, unbegun, whole}
use Rattle.rwc_reports.specs.Binaries.{BinaryDecodes, decoded, malformed}
use Rattle.rwc_reports.specs.Executables.{ModuleValidates, valid, invalid}
use Rattle.rwc_reports.proofs.Steps.{same_value, not_both}
use Rattle.rwc_reports.specs.Jobs.{Job, refusal_job, JobOf}
use Rattle.rwc_reports.specs.Runs.{RunReports}
use Rattle.rwc_reports.specs.Steps.{Refused, Onward, goes_on, stops}
use Rattle.rwc_runs.specs.Executions.{PutRose, RunsOut, Executes}

-- what was kept to a job was kept to it among others
keeps_also : (Jobs Others : Job → Type 0) (before after : Outside) (status : ℕ) (line : List ℕ) → ((job : Job) → Jobs job → Others job) → KeepsTo Jobs [] before after status line → KeepsTo Others [] before after status line
keeps_also Jobs Others before after status line also (carries_out job is how) = carries_out job (also job is) how
keeps_also Jobs Others before after status line also (unread file none same four says) = absurd none
keeps_also Jobs Others before after status line also (unbegun same eight says) = unbegun same eight says

-- a stop says more where it is a refusal
says_also : {T : Type 0} (P Q : ℕ → List ℕ → Type 0) (W : Type 0) (result : Result T Stop) → ((status : ℕ) (line : List ℕ) → P status line → Q status line) → IfStopped result P (λ _. ⊥) (λ _. W) → IfStopped result Q (λ _. ⊥) (λ _. W)
says_also P Q W (Ok value) also h = tt
says_also P Q W (Err (IsRefused status line)) also h = also status (string_bytes line) h
says_also P Q W (Err (Unread line)) also h = h
says_also P Q W (Err (Unwritten line)) also h = h
says_also P Q W (Err Memory) also h = tt

module _ (steps : ℕ) (out : SinkState) where
  -- the step was refused
  pub refused : (Leads : Result WModule Refused → Type 0) (stop : Stop) → IsStep (λ (m : WModule). m) Leads (Err stop) → Executes Leads steps out out (Err stop)
  refused Leads (IsRefused status line) step = record {
    keeps = λ shelf. carries_out (refusal_job (record { status = status; line = string_bytes line })) (stops _ step refl) (record { done = []; outside = refl; ends = whole refl refl refl });
    cause = (step, refl);
  }
  refused Leads (Unread line) step = absurd step
  refused Leads (Unwritten line) step = absurd step
  refused Leads Memory step = record { keeps = λ shelf. unbegun refl refl refl; cause = tt }

  -- the first step was refused
  pub refused_first : (First : Result WModule Refused → Type 0) (Next : WModule → Result WModule Refused → Type 0) (stop : Stop) → IsStep (λ (m : WModule). m) First (Err stop) → Executes (Onward First Next) steps out out (Err stop)
  refused_first First Next stop step = refused (Onward First Next) stop (handed stop step)
    where
      handed : (stop : Stop) → IsStep (λ (m : WModule). m) First (Err stop) → IsStep (λ (m : WModule). m) (Onward First Next) (Err stop)
      handed (IsRefused status line) step = stops _ step refl
      handed (Unread line) step = absurd step
      handed (Unwritten line) step = absurd step
      handed Memory step = tt

  module _ (out' : SinkState) (result : Result Done Stop) where
    -- it went on
    pub behind : (First : Result WModule Refused → Type 0) (Next : WModule → Result WModule Refused → Type 0) (m : WModule) → First (Ok m) → Executes (Next m) steps out out' result → Executes (Onward First Next) steps out out' result
    behind First Next m first e = record {
      keeps = λ shelf. keeps_also (λ job. JobOf (Next m) (λ n. RunReports (wasm n) steps) job) (λ job. JobOf (Onward First Next) (λ n. RunReports (wasm n) steps) job) _ _ _ _ (λ job. later job) (e.keeps shelf);
      cause = says_also _ _ (PutRose out out') result (λ status line h. (goes_on m first h.0, h.1)) e.cause;
    }
      where
        later : (job : Job) → JobOf (Next m) (λ n. RunReports (wasm n) steps) job → JobOf (Onward First Next) (λ n. RunReports (wasm n) steps) job
        later job (goes_on n leads run) = goes_on n (goes_on m first leads) run
        later job (stops r leads is) = stops r (goes_on m first leads) is

    -- the module began, and was run
    pub runs : (Leads : Result WModule Refused → Type 0) (m : WModule) → Leads (Ok m) → RunsOut (wasm m) steps out out' result → Executes Leads steps out out' result
    runs Leads m leads r = record {
      keeps = λ shelf. carries_out r.job (goes_on m leads r.reports) (r.carries_out shelf);
      cause = says_also (λ _ _. ⊥) _ (PutRose out out') result (λ status line none. absurd none) r.cause;
    }

-- what bytes lead to is in the profile
pub decoded_fits : (file bytes : List ℕ) (m : WModule) → BinaryDecodes file bytes (Ok m) → IsInProfile m
decoded_fits file bytes m (decoded n is e) = subst IsInProfile (sym (same_value m n e)) is.profile
decoded_fits file bytes m (malformed f first e) = absurd (not_both m _ e)

-- what is valid is so itself
pub validated : (file : List ℕ) (m n : WModule) → ModuleValidates file m (Ok n) → (n ≡ m) × IsValid n
validated file m n (valid is e) = let same = same_value n m e in (same, subst IsValid (sym same) is)
validated file m n (invalid v first e) = absurd (not_both n _ e)
