-- What a run from a start tells, by what is seen of the machine.
use Rattle.std.proofs.Common.{◌≡◌, ◌∙◌, ℕ, ◌+◌, List, [], ◌∷◌, ◌++◌, inl, inr, sym, ap, subst, arith}
use Rattle.machine_steps.specs.declared.End.{End}
use Rattle.machine_steps.specs.Agreement.{Seen}
use Rattle.machine_steps.specs.Steps.{Stand, Going, Over, Reached, reached}
use Rattle.machine_steps.proofs.Counts.{all_made, no_more_made}
use Rattle.machine_runs.specs.declared.answers.Outcome.{Outcome}
use Rattle.machine_runs.specs.declared.answers.Outcome.TheVariants.{Ended, Spent}
use Rattle.machine_runs.specs.declared.answers.RunError.{RunError}
use Rattle.machine_runs.specs.declared.answers.RunError.TheVariants.{Write, Stalled, Memory}
use Rattle.machine_runs.specs.Runs.{Runs, StopsBetween, StopsInLine, Stops, stand_of}
use Rattle.rw_io.specs.States.{SinkState}
use Rattle.wasm_ast.specs.declared.modules.WModule.{WModule}
use Rattle.wasm_execution.specs.Behaviour.{wasm}
use Rattle.wasm_execution.specs.Configurations.{Config}
use Rattle.wasm_execution.specs.Starts.{Begins, start_of}
use Rattle.wasm_run.specs.Progress.{Progress, begun, ended_of, next_of, steps_of}
use Rattle.wasm_run.proofs.Going.{seen_as}
use Rattle.wasm_run_laws.specs.Tellings.{EndsAfter, PausesBetween, PausesInLine, RunsModule, TellsError, TellsOutcome, seen_so}
use Rattle.wasm_run_laws.proofs.Settled.{settles}

module _ (m : WModule) (first : Config) (q : start_of m ≡ Begins first) where
  abbrev run_of : ℕ → Reached ℕ Progress
  run_of n = reached next_of n (begun m first)

  -- what is seen of the module is what the machine has come to
  come : (n : ℕ) (printed : List ℕ) (stand : Stand) → (run_of n).said ≡ printed → (run_of n).stand ≡ stand → wasm m n ≡ seen_so printed stand
  come n printed stand s t = sym (seen_as m first q n) ∙ ap (λ (ns : List ℕ). seen_so ns (run_of n).stand) s ∙ ap (seen_so printed) t

  on_the_way : (n : ℕ) → (run_of n).stand ≡ Going → (wasm m n).stand ≡ Going
  on_the_way n t = ap (λ (s : Seen). s.stand) (sym (seen_as m first q n)) ∙ t

  ended_so : (n : ℕ) (printed : List ℕ) (e : End) → (run_of n).said ≡ printed → (run_of n).stand ≡ Over e → EndsAfter m (run_of n).steps printed e
  ended_so n printed e s t =
      let h = settles next_of n (begun m first) e t in
      record {
        going = λ k lt. on_the_way k (h.before k lt);
        ends = come (run_of n).steps printed (Over e) (ap (λ (r : Reached ℕ Progress). r.said) h.again ∙ s) (ap (λ (r : Reached ℕ Progress). r.stand) h.again ∙ t);
      }

  told : (steps count : ℕ) (printed : List ℕ) (outcome : Outcome) → (run_of steps).said ≡ printed → (run_of steps).stand ≡ stand_of outcome → count ≡ (run_of steps).steps
      → TellsOutcome m steps outcome count printed
  told steps count printed (Ended e) s t c =
      let most = no_more_made next_of steps (begun m first) in
      (omega (arith, most, c), subst (λ (k : ℕ). EndsAfter m k printed e) (sym c) (ended_so steps printed e s t))
  told steps count printed Spent s t c = (c ∙ all_made next_of steps (begun m first) t, come steps printed Going s t)

  counted : (steps count : ℕ) → count ≡ 0 + (run_of steps).steps → count ≡ (run_of steps).steps
  counted steps count c = omega (arith, c)

  pub run_tells : (after : Progress) (steps : ℕ) (outcome : Outcome) (out out' : SinkState) → Runs next_of ended_of steps_of steps (begun m first) outcome after out out' → RunsModule m steps outcome after.steps out out'
  run_tells after steps outcome out out' h = record {
    printed = h.printed;
    tells = told steps after.steps h.printed outcome h.comes.prints h.comes.stands (counted steps after.steps h.comes.counted);
    put = h.put;
  }

  between : (after : Progress) (steps : ℕ) (out out' : SinkState) → StopsBetween next_of ended_of steps_of steps (begun m first) after out out' → PausesBetween m steps out out'
  between after steps out out' h = record { count = h.count; fewer = h.fewer; printed = h.printed; seen = come h.count h.printed Going h.comes.prints h.comes.stands; put = h.put }

  in_line : (after : Progress) (steps left : ℕ) (out out' : SinkState) → StopsInLine next_of ended_of steps_of steps left (begun m first) after out out' → PausesInLine m steps left out out'
  in_line after steps left out out' h = record {
    count = h.count;
    most = h.most;
    printed = h.printed;
    last = h.last;
    seen = come h.count (h.printed ++ h.last ∷ []) Going h.comes.prints h.comes.stands;
    some = h.some;
    within = h.within;
    put = h.put;
  }

  pub stop_tells : (after : Progress) (steps : ℕ) (error : RunError) (out out' : SinkState) → Stops next_of ended_of steps_of steps (begun m first) error after out out' → TellsError m steps error out out'
  stop_tells after steps (Write left) out out' h = (in_line after steps left out out' h.0, h.1)
  stop_tells after steps (Stalled left) out out' h = (in_line after steps left out out' h.0, h.1)
  stop_tells after steps Memory out out' h = elim h [ inl k ↦ inl (between after steps out out' k) | inr k ↦ inr (k.0, in_line after steps k.0 out out' k.1) ]
