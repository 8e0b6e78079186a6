-- What parts of a step do that may leave or enter a call (WebAssembly Core Specification 1.0, sections 4.4.5 to 4.4.7).
use Rattle.std.specs.Prelude.{◌≡◌, ◌≢◌, ℕ, ◌+◌, ◌<◌, ◌≤◌, ◌^◌, Bool, true, false, List, [], ◌∷◌, Option, Some, None, Result, Ok, Err, length, take, drop, slice_get}
use Rattle.machine_steps.specs.declared.Trap.{Trap}
use Rattle.machine_steps.specs.declared.Trap.TheVariants.{TableBounds, Uninitialised, Signature}
use Rattle.machine_steps.specs.Steps.{Turn, Went, NoStep}
use Rattle.machine_runs.specs.declared.answers.Turn as answer
use Rattle.machine_runs.specs.declared.answers.Turn.TheVariants.{Ended}
use Rattle.wasm_ast.specs.declared.types.FuncType.{FuncType}
use Rattle.wasm_ast.specs.declared.modules.Code.{Code}
use Rattle.wasm_ast.specs.declared.modules.WModule.{WModule}
use Rattle.wasm_ast.specs.declared.instructions.WInstr.{WInstr}
use Rattle.wasm_typing.specs.Contexts.{body_context, context_of}
use Rattle.wasm_typing.specs.Heights.{height_of}
use Rattle.wasm_execution.specs.Configurations.{Here, Config, Event, Print, prints}
use Rattle.wasm_ast.specs.SameTypes.{is_same_type}
use Rattle.wasm_execution.specs.Turns.{first_or_zero}
use Rattle.wasm_execution.specs.Environments.{Environment, Function, environment_of, function_at}
use Rattle.wasm_execution.specs.Calls.{give}
use Rattle.wasm_execution.specs.Control.{leave}
use Rattle.wasm_machine_typing.specs.Configurations.{of_code}
use Rattle.wasm_levels.specs.Lists.{count_of}
use Rattle.wasm_frames.specs.declared.calls.Called.{Called}
use Rattle.wasm_run_calls.specs.declared.callee.Callee.{Callee}
use Rattle.wasm_run_calls.specs.declared.callee.Callee.TheVariants.{Module, Host}
use Rattle.wasm_frames.specs.Frames.{here_now, callers_now, config_at, HasCode}
use Rattle.wasm_run_state.specs.declared.state.State.{State}
use Rattle.wasm_run_state.specs.States.{bottom_of, store_of, config_of}
use Rattle.wasm_run_state.specs.Tells.{Tells}

-- the configuration before a step that began with this call
abbrev pub start_at : Here → State → Config
start_at start s = config_at start s.frames (bottom_of s.next_call) (store_of s)

-- a part of a step
abbrev pub Part : Type 0
Part = Here → Config → Turn Event Config

-- a part, behind which this is left of the list, leads on
abbrev pub LeadsOn : Part → List WInstr → State → Type 0
LeadsOn part rest s = (start : Here) × (part (record (here_now s.frames) { rest = rest }) (start_at start s) ≢ NoStep)

-- what a part does, whatever call the step began with, and what is told
abbrev pub PartActs : {E : Type 0} → Part → List WInstr → State → Result answer.Turn E → State → Type 0
PartActs part rest before (Ok told) after = (start : Here) → Tells prints (part (record (here_now before.frames) { rest = rest }) (start_at start before)) told (start_at start before) (config_of after)
PartActs part rest before (Err why) after = Unit {0}

-- all is as it was, but for more room
abbrev pub IsAsItWas : State → State → Type 0
IsAsItWas before after = (config_of after ≡ config_of before) × (before.frames.values.room ≤ after.frames.values.room)

-- where the run is over, all is as it was
abbrev pub EndsSo : answer.Turn → State → State → Type 0
EndsSo (Ended end) before after = IsAsItWas before after
EndsSo _ before after = Unit {0}

-- where the run is over or memory is short, all is as it was
abbrev pub EndsAsBefore : {E : Type 0} → Result answer.Turn E → State → State → Type 0
EndsAsBefore (Ok told) before after = EndsSo told before after
EndsAsBefore (Err why) before after = IsAsItWas before after

-- the run is not over
abbrev pub IsGoing : answer.Turn → Type 0
IsGoing (Ended end) = ⊥
IsGoing _ = Unit {0}

-- the run is not over; and where memory is short, all is as it was
abbrev pub GoesOn : {E : Type 0} → Result answer.Turn E → State → State → Type 0
GoesOn (Ok told) before after = IsGoing told
GoesOn (Err why) before after = IsAsItWas before after

-- a configuration with one more operand
abbrev pub with_operand : ℕ → Config → Config
with_operand n c = record c { here = record c.here { operands = n ∷ c.here.operands } }

-- where the run is over or memory is short, a number was put back on top
abbrev pub EndsWithOperand : {E : Type 0} → ℕ → Result answer.Turn E → State → State → Type 0
EndsWithOperand n (Ok (Ended end)) before after = (config_of after ≡ with_operand n (config_of before)) × (before.frames.values.room ≤ after.frames.values.room + 1)
EndsWithOperand n (Err why) before after = (config_of after ≡ with_operand n (config_of before)) × (before.frames.values.room ≤ after.frames.values.room + 1)
EndsWithOperand n _ before after = Unit {0}

-- the results of the call that runs are given to what follows it
abbrev pub giving : Environment → Bool → State → Part
giving e gives s here c = give e (take (count_of gives) s.frames.values.own) c.callers c.bottom c

-- a function of the module is called
pub record IsCalled (m : WModule) (n : ℕ) (called : Called) : Type 0 where
  pub ty : FuncType
  pub code : Code
  pub there : function_at (environment_of m) n ≡ Some (of_code ty (Some code))
  pub number : called.function ≡ n
  pub has : HasCode called code
  pub params : called.params ≡ length ty.params
  pub few : called.declared < 2 ^ 48
  pub room : called.room ≡ height_of (body_context (context_of m) ty code) code.body

-- what a call of this function is: of one of the module, or of the host with so many parameters
abbrev pub IsCallee : WModule → ℕ → Callee → Type 0
IsCallee m n (Module called) = IsCalled m n called
IsCallee m n (Host params) = (ty : FuncType) × (function_at (environment_of m) n ≡ Some (of_code ty None)) × (params ≡ length ty.params)

-- the function that follows the first call
abbrev pub IsNext : Environment → ℕ → Type 0
IsNext e n = (ty : FuncType) × (code : Code) × (function_at e n ≡ Some (of_code ty (Some code)))

-- the first call runs, and no other, and another function is called when it is over
abbrev pub IsBeforeNext : State → Type 0
IsBeforeNext s = (s.next_call ≢ None) × (callers_now s.frames ≡ [])

-- what follows the first call, which gives this
abbrev pub following : Environment → List ℕ → Part
following e vs here c = give e vs [] c.bottom c

-- the host's function with so many parameters is called
abbrev pub prints_top : ℕ → Part
prints_top params here c = Went (Print (first_or_zero (take params here.operands)) ∷ []) (record c { here = record here { operands = drop params here.operands } })

-- the function in a table at a place, or why there is none
abbrev pub entry_in : List (Option ℕ) → ℕ → Result ℕ Trap
entry_in table at = elim (slice_get table at) [ None ↦ Err TableBounds | Some entry ↦ elim entry [ None ↦ Err Uninitialised | Some n ↦ Ok n ] ]

-- whether the function with this number has the type with this index
abbrev pub is_of_type : WModule → ℕ → ℕ → Bool
is_of_type m type_index n = elim (function_at (environment_of m) n) [ None ↦ false | Some f ↦ elim (slice_get m.types type_index) [ None ↦ false | Some ty ↦ is_same_type f.ty ty ] ]

-- the same where it has the type with this index
abbrev pub typed_entry_in : WModule → ℕ → Result ℕ Trap → Result ℕ Trap
typed_entry_in m type_index (Err why) = Err why
typed_entry_in m type_index (Ok n) = elim (is_of_type m type_index n) [ true ↦ Ok n | false ↦ Err Signature ]

-- the end of the innermost list or of the body
abbrev pub leaving : Environment → Part
leaving e here c = leave e here.levels here c

-- the label with this number, or the default
abbrev pub label_in : List ℕ → ℕ → ℕ → ℕ
label_in labels default n = elim (slice_get labels n) [ Some label ↦ label | None ↦ default ]
