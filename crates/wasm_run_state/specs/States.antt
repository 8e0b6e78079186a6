-- What changes while a module runs, and what a step does with it (WebAssembly Core Specification 1.0, sections 4.2.13 and 4.4; the room
-- is this project's own).
use Rattle.std.specs.Prelude.{◌≡◌, ℕ, ◌+◌, ◌≤◌, List, [], ◌∷◌, Option, Some, None, Result, Ok, Err, length}
use Rattle.wasm_ast.specs.declared.types.FuncType.{FuncType}
use Rattle.wasm_ast.specs.declared.modules.Code.{Code}
use Rattle.wasm_ast.specs.declared.instructions.WInstr.{WInstr}
use Rattle.wasm_ast.specs.Operations.{Operation}
use Rattle.wasm_typing.specs.declared.context.Context.{Context}
use Rattle.wasm_typing.specs.Contexts.{body_context}
use Rattle.wasm_typing.specs.Heights.{height_of}
use Rattle.machine_runs.specs.declared.answers.Turn.{Turn}
use Rattle.wasm_run_state.specs.Tells.{Tells}
use Rattle.wasm_execution.specs.Configurations.{Here, Bottom, TheEnd, ThenCall, Store, Config, prints}
use Rattle.wasm_execution.specs.Environments.{Environment, function_at}
use Rattle.wasm_execution.specs.Steps.{act}
use Rattle.wasm_machine_typing.specs.Lists.{count_beneath}
use Rattle.wasm_machine_typing.specs.Configurations.{of_code}
use Rattle.wasm_plain_dispatch.specs.Plain.{Plain, plain}
use Rattle.wasm_call_steps.specs.Callers.{AreCalls}
use Rattle.wasm_frames.specs.declared.frames.Frames.{Frames}
use Rattle.wasm_frames.specs.Frames.{rows, here_now, callers_now, config, config_at}
use Rattle.wasm_run_state.specs.declared.state.State.{State}

-- what follows the first call
abbrev pub bottom_of : Option ℕ → Bottom
bottom_of None = TheEnd
bottom_of (Some n) = ThenCall n

abbrev pub store_of : State → Store
store_of s = record { memory = s.memory; table = s.table.items; globals = s.globals.items }

-- the configuration that the rows mean
abbrev pub config_of : State → Config
config_of s = config s.frames (bottom_of s.next_call) (store_of s)

-- the numbers that plain instructions work on
abbrev pub plain_now : State → Plain
plain_now s = plain s.frames.values.own s.frames.locals.own s.memory s.globals.items

-- there is room for the height of the code of a call, so many operands more than it has
abbrev pub IsRoomFor : Context → Environment → Here → ℕ → Type 0
IsRoomFor C e h room = (ty : FuncType) (code : Code) → function_at e h.function ≡ Some (of_code ty (Some code))
    → height_of (body_context C ty code) code.body ≤ length h.operands + count_beneath h.levels + room

-- the same of each of these calls, where those in front of it are over
abbrev pub AreRoomy : Context → Environment → ℕ → List Here → Type 0
AreRoomy C e room [] = Unit {0}
AreRoomy C e room (h ∷ hs) = IsRoomFor C e h room × AreRoomy C e (room + (length h.operands + count_beneath h.levels)) hs

-- the same of the calls of a run
abbrev pub IsRoomy : Context → Environment → Frames → Type 0
IsRoomy C e f = AreRoomy C e f.values.room (here_now f ∷ callers_now f)

-- what a step keeps
pub record Keeps (C : Context) (e : Environment) (before after : Frames) : Type 0 where
  pub calls : AreCalls (rows before) → AreCalls (rows after)
  pub room : IsRoomy C e before → IsRoomy C e after

-- an instruction, behind which this is left of its list, does what the definition says, and this is told
abbrev pub ActsTo : Environment → Operation WInstr → List WInstr → State → Turn → State → Type 0
ActsTo e o rest before told after = Tells prints (act e o (record (here_now before.frames) { rest = rest }) (config_of before)) told (config_of after) (config_of after)

-- the same, or memory is short and the configuration is as it was
abbrev pub Acts : {E : Type 0} → Environment → Operation WInstr → List WInstr → State → Result Turn E → State → Type 0
Acts e o rest before (Ok told) after = ActsTo e o rest before told after
Acts e o rest before (Err why) after = config_of after ≡ config_of before
