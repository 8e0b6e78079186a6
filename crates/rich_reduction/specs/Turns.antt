-- How a step goes on from what stands there. This project's own.
use Rattle.std.specs.Prelude.{ℕ, List, [], ◌∷◌}
use Rattle.rw_types.specs.declared.types.Priv.{Priv}
use Rattle.machine_steps.specs.declared.End.TheVariants.{Trap}
use Rattle.machine_steps.specs.declared.Trap as machine
use Rattle.machine_steps.specs.Steps.{Turn, Went, Ended, NoStep}
use Rattle.rich_reduction.specs.Configurations.{Val, Number, Tuple, Ref, Ptr, Cap, Own, Fold, Pack, Code, Vals, Location, Here, Config, Event}

-- what follows from the top operand, where it is a number, and those beneath it
abbrev pub with_number : List Val → (ℕ → List Val → Turn Event Config) → Turn Event Config
with_number (Number n ∷ vs) then = then n vs
with_number _ then = NoStep

-- where it is a tuple
abbrev pub with_tuple : List Val → (Vals → List Val → Turn Event Config) → Turn Event Config
with_tuple (Tuple parts ∷ vs) then = then parts vs
with_tuple _ then = NoStep

-- where it is a reference
abbrev pub with_ref : List Val → (Location → Priv → List Val → Turn Event Config) → Turn Event Config
with_ref (Ref l p ∷ vs) then = then l p vs
with_ref _ then = NoStep

-- where it is an address
abbrev pub with_ptr : List Val → (Location → List Val → Turn Event Config) → Turn Event Config
with_ptr (Ptr l ∷ vs) then = then l vs
with_ptr _ then = NoStep

-- where it is a capability
abbrev pub with_cap : List Val → (Location → Priv → List Val → Turn Event Config) → Turn Event Config
with_cap (Cap l p ∷ vs) then = then l p vs
with_cap _ then = NoStep

-- where it is the right to write again
abbrev pub with_own : List Val → (Location → List Val → Turn Event Config) → Turn Event Config
with_own (Own l ∷ vs) then = then l vs
with_own _ then = NoStep

-- where it is folded
abbrev pub with_fold : List Val → (Val → List Val → Turn Event Config) → Turn Event Config
with_fold (Fold v ∷ vs) then = then v vs
with_fold _ then = NoStep

-- where it is packed
abbrev pub with_pack : List Val → (Val → List Val → Turn Event Config) → Turn Event Config
with_pack (Pack v ∷ vs) then = then v vs
with_pack _ then = NoStep

-- where it is a function
abbrev pub with_code : List Val → (ℕ → List Val → Turn Event Config) → Turn Event Config
with_code (Code f ∷ vs) then = then f vs
with_code _ then = NoStep

-- the call that runs goes on so, and nothing is said
abbrev pub goes_on : Here → Config → Turn Event Config
goes_on here c = Went [] (record c { here = here })

-- the call that runs goes on with these operands
abbrev pub leaves : List Val → Here → Config → Turn Event Config
leaves operands here c = goes_on (record here { operands = operands }) c

-- the run is over at the configuration before the step
abbrev pub traps : machine.Trap → Config → Turn Event Config
traps t c = Ended [] (Trap t) c
