-- When two machines behave alike, by what they print and how they end. This project's own.
use Rattle.std.specs.Prelude.{◌≡◌, ℕ, List, ◌++◌, ◌⊎◌}
use Rattle.std.specs.List.{flat_map}
use Rattle.machine_steps.specs.declared.End.TheVariants.{Trap}
use Rattle.machine_steps.specs.declared.Trap.TheVariants.{Exhausted}
use Rattle.machine_steps.specs.Steps.{Stand, Going, Over, Reached}

-- the run is over for want of room
abbrev pub IsExhausted : Stand → Type 0
IsExhausted (Over (Trap Exhausted)) = Unit {0}
IsExhausted _ = ⊥

-- the run is over, and not for want of room
abbrev pub IsSettled : Stand → Type 0
IsSettled Going = ⊥
IsSettled (Over (Trap Exhausted)) = ⊥
IsSettled _ = Unit {0}

abbrev pub IsPrefix : List ℕ → List ℕ → Type 0
IsPrefix ps qs = (rest : List ℕ) × (ps ++ rest ≡ qs)

-- the numbers printed so far, and how the run stands
pub record Seen : Type 0 where
  pub printed : List ℕ
  pub stand : Stand

-- what is seen, where an event prints these numbers
abbrev pub seen : {E A : Type 0} → (E → List ℕ) → Reached E A → Seen
seen prints r = record { printed = flat_map prints r.said; stand = r.stand }

-- what is seen of a source and of a target after each number of steps, both ways: the target comes to all that the source
-- does, or is exhausted with a prefix; and it prints and ends only as the source does
pub record Alike (source target : ℕ → Seen) : Type 0 where
  pub forth : (n : ℕ) → (m : ℕ) × ((target m ≡ source n) ⊎ (IsExhausted (target m).stand × IsPrefix (target m).printed (source n).printed))
  pub back : (m : ℕ) → (n : ℕ) × ((target m).printed ≡ (source n).printed) × (IsSettled (target m).stand → (source n).stand ≡ (target m).stand)
