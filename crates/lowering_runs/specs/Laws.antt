-- Runs of moves, in the terms of the WebAssembly Core Specification 1.0, sections 4.4.3. This project's own.
use Rattle.std.specs.Prelude.{◌≡◌, ◌≤◌, ◌⊎◌, ℕ, suc, ◌+◌, List, [], ◌∷◌, ◌++◌, length, slice_set}
use Rattle.machine_steps.specs.Simulations.{Comes}
use Rattle.wasm_ast.specs.declared.instructions.WInstr.{WInstr}
use Rattle.wasm_execution.specs.Configurations.{Config}
use Rattle.wasm_execution.specs.Environments.{Environment}
use Rattle.wasm_execution.specs.Steps.{step}
use Rattle.lowering_rows.specs.Moves.{fetches, gets, gives, moves}
use Rattle.simulation_relation.specs.Words.{Holds}

-- these words are written from a place on
abbrev pub written : ℕ → List ℕ → List ℕ → List ℕ
written at [] locals = locals
written at (n ∷ ws) locals = written (suc at) ws (slice_set locals at n)

-- these words lie on operands, the last one on top
abbrev pub pushed : List ℕ → List ℕ → List ℕ
pushed [] operands = operands
pushed (n ∷ ws) operands = pushed ws (n ∷ operands)

-- words of locals go to locals, where the new places are not among those that are still to be read
abbrev pub MovesRun : Type 0
MovesRun = (e : Environment) (c : Config) (n from to : ℕ) (rest : List WInstr) (ws : List ℕ) → c.here.rest ≡ moves n from to ++ rest → length ws ≡ n → Holds c.here.locals from ws → to + n ≤ length c.here.locals →
    (to ≤ from) ⊎ (from + n ≤ to) → Comes (step e) (n + n) c [] (record c { here = record c.here { rest = rest; locals = written to ws c.here.locals } })

-- words of locals go to the operands
abbrev pub GetsRun : Type 0
GetsRun = (e : Environment) (c : Config) (n from : ℕ) (rest : List WInstr) (ws : List ℕ) → c.here.rest ≡ gets n from ++ rest → length ws ≡ n → Holds c.here.locals from ws →
    Comes (step e) n c [] (record c { here = record c.here { rest = rest; operands = pushed ws c.here.operands } })

-- words of locals go to globals
abbrev pub GivesRun : Type 0
GivesRun = (e : Environment) (c : Config) (n from to : ℕ) (rest : List WInstr) (ws : List ℕ) → c.here.rest ≡ gives n from to ++ rest → length ws ≡ n → Holds c.here.locals from ws → to + n ≤ length c.store.globals →
    Comes (step e) (n + n) c [] (record c { here = record c.here { rest = rest }; store = record c.store { globals = written to ws c.store.globals } })

-- words of globals go to locals
abbrev pub FetchesRun : Type 0
FetchesRun = (e : Environment) (c : Config) (n from to : ℕ) (rest : List WInstr) (ws : List ℕ) → c.here.rest ≡ fetches n from to ++ rest → length ws ≡ n → Holds c.store.globals from ws → to + n ≤ length c.here.locals →
    Comes (step e) (n + n) c [] (record c { here = record c.here { rest = rest; locals = written to ws c.here.locals } })
