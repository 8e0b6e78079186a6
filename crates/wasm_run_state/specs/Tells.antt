-- What a machine's answer to a step tells (this project's own).
use Rattle.std.specs.Prelude.{◌≡◌, ℕ, List, [], ◌∷◌}
use Rattle.std.specs.List.{flat_map}
use Rattle.std.specs.Int.{cast_signed, w64}
use Rattle.machine_steps.specs.Steps as steps
use Rattle.machine_runs.specs.declared.answers.Turn.{Turn}
use Rattle.machine_runs.specs.declared.answers.Turn.TheVariants.{Went, Printed, Ended}

-- the definition's turn, which says this and leads there, or which ends there
abbrev pub turn_of : {E A : Type 0} → Turn → List E → A → A → steps.Turn E A
turn_of Went es end next = steps.Went es next
turn_of (Printed n) es end next = steps.Went es next
turn_of (Ended why) es end next = steps.Ended es why end

-- what is printed: one number, or nothing
abbrev pub IsPrinted : Turn → List ℕ → Type 0
IsPrinted (Printed n) ns = (bits : ℕ) × (ns ≡ bits ∷ []) × (n ≡ cast_signed w64 bits)
IsPrinted _ ns = ns ≡ []

-- an answer tells of a turn of the definition, where each event prints so
pub record Tells {E A : Type 0} (prints : E → List ℕ) (turn : steps.Turn E A) (answer : Turn) (end next : A) : Type 0 where
  pub events : List E
  pub printed : IsPrinted answer (flat_map prints events)
  pub is : turn ≡ turn_of answer events end next
