-- Ends for want of room are said.
use Rattle.std.proofs.Common.{◌≡◌, ◌∙◌, ℕ, zero, suc, List, [], ◌∷◌, ◌++◌, refl, ap, sym, subst, append_assoc}
use Rattle.machine_steps.specs.declared.End.{End}
use Rattle.machine_steps.specs.declared.End.TheVariants.{Trap}
use Rattle.machine_steps.specs.declared.Trap as machine
use Rattle.machine_steps.specs.declared.Trap.TheVariants as why
use Rattle.machine_steps.specs.Steps.{Turn, Went, Ended, NoStep, Over, reached_by, reached}
use Rattle.wasm_execution.specs.Configurations.{Config, Event, Stopped}
use Rattle.wasm_execution.specs.Environments.{Environment}
use Rattle.wasm_execution.specs.Control.{reason_in}
use Rattle.wasm_execution.specs.Steps.{step}
use Rattle.heap_steps.specs.Steps.{SaysWhy, StepsSayWhy, RunsSayWhy}
use Rattle.heap_steps.proofs.Cases.{Cases, IsOrdinary, by_cases}

ordinary : (said : List Event) (t : machine.Trap) (d : Config) → IsOrdinary t → SaysWhy (Ended said (Trap t) d)
ordinary said why.Exhausted d o = absurd o
ordinary said why.DivideByZero d o = tt
ordinary said why.Overflow d o = tt
ordinary said why.Index d o = tt
ordinary said why.Unreachable d o = tt
ordinary said why.MemoryBounds d o = tt
ordinary said why.TableBounds d o = tt
ordinary said why.Uninitialised d o = tt
ordinary said why.Signature d o = tt

stopped : (t : machine.Trap) (d : Config) → SaysWhy (Ended (Stopped t ∷ []) (Trap t) d)
stopped why.Exhausted d = refl
stopped why.DivideByZero d = tt
stopped why.Overflow d = tt
stopped why.Index d = tt
stopped why.Unreachable d = tt
stopped why.MemoryBounds d = tt
stopped why.TableBounds d = tt
stopped why.Uninitialised d = tt
stopped why.Signature d = tt

cases : (e : Environment) (c : Config) → Cases e c SaysWhy
cases e c = record {
  none = tt;
  goes = λ here s. tt;
  trapped = λ t o. ordinary [] t c o;
  stopped = stopped (reason_in e c.store) c;
  ended = λ v. tt;
  sets = λ here s n v. tt;
  loads = λ here there s t address count. tt;
  stores = λ here there s t address count v le. tt;
  misses = λ here s address count. tt;
  grows = λ here s n. tt;
  prints = λ here s n. tt;
  enters = λ waiting s n code vs. tt;
  gives = λ vs caller callers q. tt;
  goes_to_main = λ n code q r. tt;
}

pub steps_say_why : StepsSayWhy
steps_say_why e c = by_cases e c SaysWhy (cases e c)

abbrev SaidLast : List Event → Type 0
SaidLast said = (before : List Event) × (said ≡ before ++ (Stopped why.Exhausted ∷ []))

behind : (front said : List Event) → SaidLast said → SaidLast (front ++ said)
behind front said (before, q) = (front ++ before, ap (λ (es : List Event). front ++ es) q ∙ sym (append_assoc front before (Stopped why.Exhausted ∷ [])))

turn : (e : Environment) (n : ℕ) (c : Config) (t : Turn Event Config) → SaysWhy t → ((d : Config) → (reached (step e) n d).stand ≡ Over (Trap why.Exhausted) → SaidLast (reached (step e) n d).said)
    → (reached_by t c (reached (step e) n)).stand ≡ Over (Trap why.Exhausted) → SaidLast (reached_by t c (reached (step e) n)).said
turn e n c (Went es d) k again q = behind es (reached (step e) n d).said (again d q)
turn e n c (Ended es end d) k again q =
    let same : end ≡ Trap why.Exhausted = cc in
    let told : SaysWhy (Ended es (Trap why.Exhausted) d) = subst (λ (x : End). SaysWhy (Ended es x d)) same k in
    ([], told)
turn e n c NoStep k again q = absurd cc

pub runs_say_why : RunsSayWhy
runs_say_why e c zero q = absurd cc
runs_say_why e c (suc n) q = turn e n c (step e c) (steps_say_why e c) (λ d r. runs_say_why e d n r) q
