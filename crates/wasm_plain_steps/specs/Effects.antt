-- What an instruction does to the operands, the locals and the globals, whatever else there is (WebAssembly Core Specification
-- 1.0, section 4.4).
use Rattle.std.specs.Prelude.{◌≡◌, ℕ, List, [], Result, Ok, Err}
use Rattle.machine_steps.specs.Steps.{Turn, Went}
use Rattle.machine_steps.specs.declared.Trap.{Trap}
use Rattle.wasm_execution.specs.Configurations.{Here, Config, Event}
use Rattle.wasm_execution.specs.Turns.{goes_on, leaves, traps}

-- what an instruction does, whose function has these two arguments
abbrev pub Act : Type 0
Act = Here → Config → Turn Event Config

-- on these operands it goes on with those
abbrev pub Does : Act → List ℕ → List ℕ → Type 0
Does act old new = (here : Here) (c : Config) → act (record here { operands = old }) c ≡ leaves new here c

abbrev pub answered : Result (Unit {0}) Trap → List ℕ → Act
answered (Ok u) new here c = leaves new here c
answered (Err why) new here c = traps why c

-- on these operands it goes on with those, or it traps
abbrev pub DoesOrTraps : Act → List ℕ → Result (Unit {0}) Trap → List ℕ → Type 0
DoesOrTraps act old result new = (here : Here) (c : Config) → act (record here { operands = old }) c ≡ answered result new here c

-- on these operands and locals it goes on with those
abbrev pub DoesOnLocals : Act → List ℕ → List ℕ → List ℕ → List ℕ → Type 0
DoesOnLocals act old locals new locals' = (here : Here) (c : Config) →
    act (record here { operands = old; locals = locals }) c ≡ goes_on (record here { operands = new; locals = locals' }) c

-- on these operands and globals it goes on with those
abbrev pub DoesOnGlobals : Act → List ℕ → List ℕ → List ℕ → List ℕ → Type 0
DoesOnGlobals act old globals new globals' = (here : Here) (c : Config) →
    act (record here { operands = old }) (record c { store = record c.store { globals = globals } })
    ≡ Went [] (record c { here = record here { operands = new }; store = record c.store { globals = globals' } })
