-- How a step goes on from what stands there (WebAssembly Core Specification 1.0, section 4.4).
use Rattle.std.specs.Prelude.{ℕ, List, [], ◌∷◌}
use Rattle.machine_steps.specs.declared.End.TheVariants.{Trap}
use Rattle.machine_steps.specs.declared.Trap as machine
use Rattle.machine_steps.specs.Steps.{Turn, Went, Ended, with_one}
use Rattle.wasm_execution.specs.Configurations.{Here, Config, Event}

-- what follows from the two top operands, the lower one first, and those beneath them
abbrev pub with_two : {Y : Type 0} → List ℕ → (ℕ → ℕ → List ℕ → Turn Event Y) → Turn Event Y
with_two vs then = with_one vs (λ second beneath. with_one beneath (λ first rest. then first second rest))

abbrev pub first_or_zero : List ℕ → ℕ
first_or_zero [] = 0
first_or_zero (v ∷ vs) = v

-- the call that runs goes on so, and nothing is said
abbrev pub goes_on : Here → Config → Turn Event Config
goes_on here c = Went [] (record c { here = here })

-- the call that runs goes on with these operands
abbrev pub leaves : List ℕ → Here → Config → Turn Event Config
leaves operands here c = goes_on (record here { operands = operands }) c

-- the run is over at the configuration before the step
abbrev pub traps : machine.Trap → Config → Turn Event Config
traps t c = Ended [] (Trap t) c
