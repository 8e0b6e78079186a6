-- What the rows of a run mean, and what control instructions do with it (WebAssembly Core Specification 1.0, sections 4.4.5 to
-- 4.4.7).
use Rattle.std.specs.Prelude.{◌≡◌, ℕ, ◌+◌, ◌≤◌, Bool, true, false, List, [], ◌∷◌, ◌++◌, length, take, drop}
use Rattle.wasm_ast.specs.declared.instructions.WInstr.{WInstr}
use Rattle.wasm_ast.specs.declared.modules.Code.{Code}
use Rattle.wasm_ast.specs.Operations.{Operation}
use Rattle.machine_steps.specs.Steps.{Turn, Went}
use Rattle.wasm_execution.specs.Configurations.{Here, Bottom, Store, Config, Event}
use Rattle.wasm_execution.specs.Environments.{Environment}
use Rattle.wasm_execution.specs.Calls.{declared, entered}
use Rattle.wasm_execution.specs.Steps.{act}
use Rattle.wasm_machine_typing.specs.Lists.{count_beneath}
use Rattle.wasm_levels.specs.Lists.{count_of, levels_of}
use Rattle.wasm_call_steps.specs.Callers.{Run, run, here_of, below, AreCalls}
use Rattle.wasm_frames.specs.declared.frames.Frames.{Frames}
use Rattle.wasm_frames.specs.declared.calls.Called.{Called}

abbrev pub rows : Frames → Run
rows f = run f.values f.locals f.levels f.callers

-- the call that runs
abbrev pub here_now : Frames → Here
here_now f = here_of f.function f.argument f.code.now (rows f)

-- those that wait for it
abbrev pub callers_now : Frames → List Here
callers_now f = below (rows f)

-- a configuration with these calls that wait
abbrev pub config_at : Here → Frames → Bottom → Store → Config
config_at here f bottom store = record { here = here; callers = callers_now f; bottom = bottom; store = store }

abbrev pub config : Frames → Bottom → Store → Config
config f bottom store = config_at (here_now f) f bottom store

-- how many operands the call that runs has, and how many more may be put on top without asking for memory
abbrev pub reach : Frames → ℕ
reach f = f.values.room + (length f.values.own + count_beneath (levels_of f.levels.own f.values.beneath))

-- the same call runs, over the same calls that wait, with room for as many operands
pub record StaysInCall (before after : Frames) : Type 0 where
  pub function : after.function ≡ before.function
  pub callers : callers_now after ≡ callers_now before
  pub reach : reach after ≡ reach before
  pub calls : AreCalls (rows before) → AreCalls (rows after)

-- all is as it was, with room for at least as many operands
pub record IsAsBefore (before after : Frames) : Type 0 where
  pub here : here_now after ≡ here_now before
  pub callers : callers_now after ≡ callers_now before
  pub room : before.values.room ≤ after.values.room
  pub calls : AreCalls (rows before) → AreCalls (rows after)

-- what an instruction or a part of one does, whatever configuration the step began with; behind it this is left of its list
abbrev pub Moves : (Environment → Here → Config → Turn Event Config) → List WInstr → Frames → Frames → Type 0
Moves part rest before after =
    (e : Environment) (start : Here) (bottom : Bottom) (store : Store) → part e (record (here_now before) { rest = rest }) (config_at start before bottom store) ≡ Went [] (config after bottom store)

abbrev pub Goes : Operation WInstr → List WInstr → Frames → Frames → Type 0
Goes o rest before after = Moves (λ e. act e o) rest before after

-- a number was taken from the operands and is put back
pub record PutsBack (number : ℕ) (before after : Frames) : Type 0 where
  pub own : after.values.own ≡ number ∷ before.values.own
  pub beneath : after.values.beneath ≡ before.values.beneath
  pub room : after.values.room + 1 ≡ before.values.room
  pub others : after ≡ record before { values = after.values }

-- a function that is called has this code
abbrev pub HasCode : Called → Code → Type 0
HasCode f code = (f.body.now ≡ code.body) × (f.declared ≡ declared code.locals)

-- a function of the module is called, over the call that runs
pub record EntersCall (f : Called) (rest : List WInstr) (before after : Frames) : Type 0 where
  pub entered : (code : Code) → HasCode f code → (bottom : Bottom) (store : Store) → config after bottom store
      ≡ entered f.function code (take f.params before.values.own) (record (here_now before) { operands = drop f.params before.values.own; rest = rest } ∷ callers_now before) bottom store
  pub callers : callers_now after ≡ record (here_now before) { operands = drop f.params before.values.own; rest = rest } ∷ callers_now before
  pub calls : AreCalls (rows before) → AreCalls (rows after)
  pub room : f.room ≤ after.values.room
  pub more : before.values.room + f.params ≤ after.values.room

-- a function of the module that takes nothing is called in the place of the last call
pub record EntersLastCall (f : Called) (before after : Frames) : Type 0 where
  pub entered : (code : Code) → HasCode f code → (bottom : Bottom) (store : Store) → config after bottom store ≡ entered f.function code [] [] bottom store
  pub calls : AreCalls (rows after)
  pub room : f.room ≤ after.values.room

-- the call that runs is over, and the one that waited for it goes on
pub record LeavesCallFor (gives : Bool) (before after : Frames) : Type 0 where
  pub caller : Here
  pub callers : callers_now before ≡ caller ∷ callers_now after
  pub here : (taken rest : List ℕ) → before.values.own ≡ taken ++ rest → length taken ≡ count_of gives → here_now after ≡ record caller { operands = taken ++ caller.operands }
  pub calls : AreCalls (rows after)
  pub room : after.values.room + count_of gives ≡ reach before

-- whether a call waited for the one that runs
abbrev pub LeavesCall : Bool → Bool → Frames → Frames → Type 0
LeavesCall gives true before after = LeavesCallFor gives before after
LeavesCall gives false before after = (callers_now before ≡ []) × (after ≡ before)
