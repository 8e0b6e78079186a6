-- Laws of typed configurations (WebAssembly Core Specification 1.0, appendix A.5, "soundness").
use Rattle.std.specs.Prelude.{◌≡◌, ◌≢◌, ℕ, ◌≤◌, ◌+◌, length, List, ◌∷◌, Some, reverse}
use Rattle.wasm_ast.specs.declared.instructions.WInstr.{WInstr}
use Rattle.wasm_ast.specs.declared.types.FuncType.{FuncType}
use Rattle.wasm_ast.specs.declared.modules.Code.{Code}
use Rattle.wasm_ast.specs.Operations.{Operation, operation_of}
use Rattle.wasm_ast.specs.Operations as operation
use Rattle.wasm_typing.specs.declared.context.Context.{Context}
use Rattle.wasm_typing.specs.Contexts.{body_context}
use Rattle.wasm_typing.specs.Heights.{height_of}
use Rattle.machine_steps.specs.Steps.{Stuck, reached}
use Rattle.wasm_execution.specs.Configurations.{Here, Bottom, Store, Config}
use Rattle.wasm_execution.specs.Environments.{Environment, function_at}
use Rattle.wasm_execution.specs.Calls.{entered}
use Rattle.wasm_execution.specs.Steps.{step}
use Rattle.wasm_machine_typing.specs.Values.{AreOf}
use Rattle.wasm_machine_typing.specs.Lists.{count_beneath}
use Rattle.wasm_machine_typing.specs.Configurations.{of_code, IsTypedEnvironment, IsTypedStore, AreTypedCallers, IsTypedConfig, IsTypedTurn}

-- instructions that neither open a list nor leave one, nor call
abbrev pub StaysInList : {A : Type 0} → Operation A → Type 0
StaysInList operation.Unreachable = ⊥
StaysInList (operation.Block _ _) = ⊥
StaysInList (operation.Loop _ _) = ⊥
StaysInList (operation.If _ _) = ⊥
StaysInList (operation.IfElse _ _ _) = ⊥
StaysInList (operation.Br _) = ⊥
StaysInList (operation.BrIf _) = ⊥
StaysInList (operation.BrTable _ _) = ⊥
StaysInList operation.Return = ⊥
StaysInList (operation.Call _) = ⊥
StaysInList (operation.CallIndirect _) = ⊥
StaysInList _ = Unit {0}

-- a plain instruction of a typed configuration has a step, to a typed configuration or to a trap
abbrev pub PlainGoesOn : Type 0
PlainGoesOn =
    (C : Context) (e : Environment) (c : Config) (i : WInstr) (rest : List WInstr) → IsTypedEnvironment C e → IsTypedConfig C e c → c.here.rest ≡ i ∷ rest
    → StaysInList (operation_of i) → IsTypedTurn C e (step e c)

-- a step of a typed configuration leads to a typed configuration, or the run is over: the ends of lists, branches, calls and returns
-- too
abbrev pub EachStepGoesOn : Type 0
EachStepGoesOn = (C : Context) (e : Environment) (c : Config) → IsTypedEnvironment C e → IsTypedConfig C e c → IsTypedTurn C e (step e c)

-- after no number of steps is a run from a typed configuration stuck
abbrev pub TypedNeverStuck : Type 0
TypedNeverStuck = (C : Context) (e : Environment) (c : Config) → IsTypedEnvironment C e → IsTypedConfig C e c → (n : ℕ) → (reached (step e) n c).stand ≢ Stuck

-- the call of a function of the module, with its arguments, over typed calls that wait and a typed store, is typed
abbrev pub CallsAreTyped : Type 0
CallsAreTyped =
    (C : Context) (e : Environment) → IsTypedEnvironment C e → (n : ℕ) (ty : FuncType) (code : Code) (arguments : List ℕ) (callers : List Here) (bottom : Bottom) (s : Store)
    → function_at e n ≡ Some (of_code ty (Some code)) → AreOf (reverse ty.params) arguments → AreTypedCallers C e ty.result callers bottom → IsTypedStore C e s
    → IsTypedConfig C e (entered n code arguments callers bottom s)

-- after any number of steps a run from a typed configuration is at a typed one
abbrev pub StaysTyped : Type 0
StaysTyped = (C : Context) (e : Environment) (c : Config) → IsTypedEnvironment C e → IsTypedConfig C e c → (n : ℕ) → IsTypedConfig C e (reached (step e) n c).at

-- the operands of the call that runs, in all its lists, are within the height of its function's code
abbrev pub IsWithinHeight : Context → Environment → Config → Type 0
IsWithinHeight C e c = (ty : FuncType) (code : Code) → function_at e c.here.function ≡ Some (of_code ty (Some code))
    → length c.here.operands + count_beneath c.here.levels ≤ height_of (body_context C ty code) code.body

abbrev pub StandsWithin : Type 0
StandsWithin = (C : Context) (e : Environment) (c : Config) → IsTypedConfig C e c → IsWithinHeight C e c
