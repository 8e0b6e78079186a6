-- Runs that come to an end, by what is seen of them. This project's own.
use Rattle.std.specs.Prelude.{◌≡◌, ◌≢◌, ℕ, ℤ, List}
use Rattle.machine_steps.specs.declared.End.{End}
use Rattle.machine_steps.specs.declared.End.TheVariants.{Value}
use Rattle.machine_steps.specs.Steps.{Over, Stuck}
use Rattle.machine_steps.specs.Agreement.{IsExhausted, Seen}

-- after no number of steps is the run stuck
abbrev pub NeverStuck : (ℕ → Seen) → Type 0
NeverStuck run = (n : ℕ) → (run n).stand ≢ Stuck

-- after no number of steps is it over for want of room
abbrev pub NeverExhausted : (ℕ → Seen) → Type 0
NeverExhausted run = (n : ℕ) → IsExhausted (run n).stand → ⊥

-- after some number of steps it is over with this end, and these numbers are printed
abbrev pub EndsWith : (ℕ → Seen) → List ℕ → End → Type 0
EndsWith run printed how = (n : ℕ) × (run n ≡ record { printed = printed; stand = Over how })

-- a run that is never stuck and never exhausted, and ends with these numbers printed
pub record Terminates (run : ℕ → Seen) (printed : List ℕ) (how : End) : Type 0 where
  pub never_stuck : NeverStuck run
  pub never_exhausted : NeverExhausted run
  pub ends : EndsWith run printed how

-- a source and a target that both do so, with the same numbers printed and the same value
pub record BothEnd (source target : ℕ → Seen) : Type 0 where
  pub printed : List ℕ
  pub value : ℤ
  pub of_source : Terminates source printed (Value value)
  pub of_target : Terminates target printed (Value value)
