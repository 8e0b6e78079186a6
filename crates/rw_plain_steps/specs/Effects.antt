-- What an instruction does to the operands, the locals and the output, whatever else there is. This project's own.
use Rattle.std.specs.Prelude.{◌≡◌, ℕ, List, [], ◌∷◌, Result, Ok, Err}
use Rattle.machine_steps.specs.declared.Trap.{Trap}
use Rattle.machine_steps.specs.Steps.{Turn, Went}
use Rattle.rich_reduction.specs.Configurations.{Val, Here, Config, Event, Print}
use Rattle.rich_reduction.specs.Turns.{goes_on, leaves, traps}

-- what an instruction does, whose function has these two arguments
abbrev pub Act : Type 0
Act = Here → Config → Turn Event Config

-- on these operands it goes on with those
abbrev pub Leaves : Act → List Val → List Val → Type 0
Leaves act old new = (here : Here) (c : Config) → act (record here { operands = old }) c ≡ leaves new here c

abbrev pub answered : Result (Unit {0}) Trap → List Val → Act
answered (Ok u) new here c = leaves new here c
answered (Err why) new here c = traps why c

-- on these operands it goes on with those, or it traps
abbrev pub LeavesOrTraps : Act → List Val → Result (Unit {0}) Trap → List Val → Type 0
LeavesOrTraps act old result new = (here : Here) (c : Config) → act (record here { operands = old }) c ≡ answered result new here c

-- on these operands it prints this number and goes on with those
abbrev pub PrintsAndLeaves : Act → List Val → ℕ → List Val → Type 0
PrintsAndLeaves act old n new = (here : Here) (c : Config) →
    act (record here { operands = old }) c ≡ Went (Print n ∷ []) (record c { here = record here { operands = new } })

-- on these operands and locals it goes on with those
abbrev pub LeavesLocals : Act → List Val → List Val → List Val → List Val → Type 0
LeavesLocals act old locals new locals' = (here : Here) (c : Config) →
    act (record here { operands = old; locals = locals }) c ≡ goes_on (record here { operands = new; locals = locals' }) c
