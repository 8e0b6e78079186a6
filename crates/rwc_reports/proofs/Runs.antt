-- A run has one job: it ends after one number of steps, or goes on after all of them.
use Rattle.std.proofs.Common.{◌≡◌, ◌∙◌, ◌≤◌, ◌<◌, inl, inr, ℕ, zero, suc, ◌+◌, ◌-◌, List, [], ◌∷◌, refl, ap, sym, arith}
use Rattle.std.specs.Prelude.{codes}
use Rattle.machine_steps.specs.declared.End.{End}
use Rattle.machine_steps.specs.declared.End.TheVariants.{Value, Trap}
use Rattle.machine_steps.specs.Agreement.{Seen}
use Rattle.machine_steps.specs.Ending.{NeverStuck}
use Rattle.machine_steps.specs.Steps.{Stand, Going, Over, Stuck, Reached}
use Rattle.machine_steps.proofs.Alike.{same_seen, stays}
use Rattle.wasm_ast.specs.declared.modules.WModule.{WModule}
use Rattle.wasm_execution.specs.Behaviour.{seen_from, wasm}
use Rattle.wasm_execution.specs.Configurations.{Config, Event}
use Rattle.wasm_execution.specs.Environments.{environment_of}
use Rattle.wasm_execution.specs.Starts.{Start, UnknownImport, SegmentOut, NoMain, NoStartFunction, Begins, start_of}
use Rattle.wasm_execution.specs.Steps.{step}
use Rattle.rwc_reports.specs.Jobs.{Job}
use Rattle.rwc_reports.specs.Runs.{RunReports, ended, spent, run_job, after_line, end_text, end_status}
use Rattle.rwc_reports.specs.Steps.{IsOneOf}
use Rattle.rwc_reports.proofs.OneAnswer.{compare}

-- what has ended stays
abbrev pub Stays : (ℕ → Seen) → Type 0
Stays run = (n : ℕ) (e : End) → (run n).stand ≡ Over e → (run (suc n)).stand ≡ Over e

wasm_stays_from : (m : WModule) (start : Start) → Stays (λ n. seen_from m n start)
wasm_stays_from m (Begins c) n e is = ap (λ (r : Reached Event Config). r.stand) (stays (step (environment_of m)) n c e is) ∙ is
wasm_stays_from m (UnknownImport i) n e is = is
wasm_stays_from m (SegmentOut i) n e is = is
wasm_stays_from m NoMain n e is = is
wasm_stays_from m NoStartFunction n e is = is

pub wasm_stays : (m : WModule) → Stays (wasm m)
wasm_stays m = wasm_stays_from m (start_of m)

-- the job by how a run stands after so many steps
abbrev how_job : List ℕ → Stand → ℕ → Job
how_job printed (Over e) count = run_job printed (after_line (end_text e) count) (end_status e)
how_job printed Going count = run_job printed (after_line (codes "spent") count) 7
how_job printed Stuck count = run_job printed (after_line (codes "spent") count) 7

abbrev job_by : Seen → ℕ → Job
job_by s count = how_job s.printed s.stand count

going_or_over : (s : Stand) (e : End) → s ≡ Going → s ≡ Over e → ⊥
going_or_over s e going over = let same : Going ≡ Over e = sym going ∙ over in cc

module _ (run : ℕ → Seen) (keeps : Stays run) (steps : ℕ) where
  later_by : (d n k : ℕ) (e : End) → k ≡ d + n → (run n).stand ≡ Over e → (run k).stand ≡ Over e
  later_by zero n k e is over = let same : k ≡ n = omega (arith, is) in ap (λ (j : ℕ). (run j).stand) same ∙ over
  later_by (suc d) n k e is over =
      let j : ℕ = d + n in
      let same : k ≡ suc j = omega (arith, is) in
      ap (λ (i : ℕ). (run i).stand) same ∙ keeps j e (later_by d n j e refl over)

  pub later : (n k : ℕ) (e : End) → n ≤ k → (run n).stand ≡ Over e → (run k).stand ≡ Over e
  later n k e le is = later_by (k - n) n k e (omega (arith, le)) is

  pub one_run : (a b : Job) → RunReports run steps a → RunReports run steps b → a ≡ b
  one_run a b (ended m p e le before is x) (ended n q f also earlier has y) = elim (compare m n) [
    | inl less ↦ absurd (going_or_over (run m).stand e (earlier m less) (ap (λ s. s.stand) is))
    | inr (inl more) ↦ absurd (going_or_over (run n).stand f (before n more) (ap (λ s. s.stand) has))
    | inr (inr same) ↦ x ∙ ap (λ s. job_by s m) (sym is) ∙ ap (λ k. job_by (run k) k) same ∙ ap (λ s. job_by s n) has ∙ sym y
  ]
  one_run a b (ended m p e le before is x) (spent q has y) = absurd (going_or_over (run steps).stand e (ap (λ s. s.stand) has) (later m steps e le (ap (λ s. s.stand) is)))
  one_run a b (spent p is x) (ended n q f also earlier has y) = absurd (going_or_over (run steps).stand f (ap (λ s. s.stand) is) (later n steps f also (ap (λ s. s.stand) has)))
  one_run a b (spent p is x) (spent q has y) = x ∙ ap (λ s. job_by s steps) (sym is) ∙ ap (λ s. job_by s steps) has ∙ sym y

-- the first number of steps below this one after which a run is over, or none
data FirstOver (run : ℕ → Seen) (n : ℕ) : Type 0 where
  none : ((k : ℕ) → k < n → (run k).stand ≡ Going) → FirstOver run n
  first : (k : ℕ) (e : End) → k < n → ((j : ℕ) → j < k → (run j).stand ≡ Going) → (run k).stand ≡ Over e → FirstOver run n

module _ (run : ℕ → Seen) (never : NeverStuck run) where
  next : (n : ℕ) (s : Stand) → (run n).stand ≡ s → ((k : ℕ) → k < n → (run k).stand ≡ Going) → FirstOver run (suc n)
  next n Going is before = none (λ k less. elim (compare k n) [
    | inl lt ↦ before k lt
    | inr (inl more) ↦ absurd (omega (arith, less, more))
    | inr (inr same) ↦ ap (λ j. (run j).stand) same ∙ is
  ])
  next n (Over e) is before = first n e (omega arith) before is
  next n Stuck is before = absurd (never n is)

  first_over : (n : ℕ) → FirstOver run n
  first_over zero = none (λ k less. absurd (omega (arith, less)))
  first_over (suc n) = on (first_over n)
    where
      on : FirstOver run n → FirstOver run (suc n)
      on (none before) = next n (run n).stand refl before
      on (first k e less before is) = first k e (omega (arith, less)) before is

  pub some_run : (steps : ℕ) → (job : Job) × RunReports run steps job
  some_run steps = of_first (first_over (suc steps))
    where
      of_first : FirstOver run (suc steps) → (job : Job) × RunReports run steps job
      of_first (none before) = (_, spent (run steps).printed (same_seen (run steps) _ refl (before steps (omega arith))) refl)
      of_first (first k e less before is) = (_, ended k (run k).printed e (omega (arith, less)) before (same_seen (run k) _ refl is) refl)

-- the status of a run
pub run_status : (run : ℕ → Seen) (steps : ℕ) (job : Job) → RunReports run steps job → IsOneOf (0 ∷ 6 ∷ 7 ∷ []) job.status
run_status run steps job (ended m p (Value v) le before is e) = inl (ap (λ (j : Job). j.status) e)
run_status run steps job (ended m p (Trap t) le before is e) = inr (inl (ap (λ (j : Job). j.status) e))
run_status run steps job (spent p is e) = inr (inr (inl (ap (λ (j : Job). j.status) e)))
