-- What instructions find in a typed configuration (WebAssembly Core Specification 1.0, appendix A.5; the room is this project's
-- own).
use Rattle.std.specs.Prelude.{◌≡◌, ℕ, ◌+◌, ◌≤◌, List, ◌∷◌, Some, length}
use Rattle.wasm_ast.specs.declared.instructions.WInstr.{WInstr}
use Rattle.wasm_ast.specs.declared.types.FuncType.{FuncType}
use Rattle.wasm_ast.specs.declared.modules.Code.{Code}
use Rattle.wasm_ast.specs.Operations.{Operation, operation_of}
use Rattle.wasm_ast.specs.Operations as operation
use Rattle.wasm_typing.specs.declared.context.Context.{Context}
use Rattle.wasm_typing.specs.Contexts.{body_context}
use Rattle.wasm_typing.specs.Heights.{height_of}
use Rattle.wasm_execution.specs.Configurations.{Config}
use Rattle.wasm_execution.specs.Environments.{Environment, function_at}
use Rattle.wasm_operators.specs.declared.Width.TheVariants.{W32}
use Rattle.wasm_plain_steps.specs.Operands.{HasOne}
use Rattle.wasm_plain_dispatch.specs.Plain.{Plain, plain, FindsPlain}
use Rattle.wasm_machine_typing.specs.Lists.{count_beneath}
use Rattle.wasm_machine_typing.specs.Configurations.{of_code, IsTypedEnvironment, IsTypedConfig}

-- the numbers that plain instructions work on
abbrev pub plain_of : Config → Plain
plain_of c = plain c.here.operands c.here.locals c.store.memory c.store.globals

-- there is room for the height of the code that runs, so many operands more than there are
abbrev pub HasRoom : Context → Environment → Config → ℕ → Type 0
HasRoom C e c room = (ty : FuncType) (code : Code) → function_at e c.here.function ≡ Some (of_code ty (Some code))
    → height_of (body_context C ty code) code.body ≤ length c.here.operands + count_beneath c.here.levels + room

-- what an instruction has to find, with room for so many more operands: a plain one, or a growth of the memory
abbrev pub Finds : Operation WInstr → Plain → ℕ → Type 0
Finds operation.Unreachable p room = Unit {0}
Finds (operation.Block t xs) p room = Unit {0}
Finds (operation.Loop t xs) p room = Unit {0}
Finds (operation.If t xs) p room = Unit {0}
Finds (operation.IfElse t xs ys) p room = Unit {0}
Finds (operation.Br label) p room = Unit {0}
Finds (operation.BrIf label) p room = Unit {0}
Finds (operation.BrTable labels default) p room = Unit {0}
Finds operation.Return p room = Unit {0}
Finds (operation.Call n) p room = Unit {0}
Finds (operation.CallIndirect n) p room = Unit {0}
Finds operation.MemoryGrow p room = HasOne W32 p.operands
Finds o p room = FindsPlain o p room

abbrev pub TypedFinds : Type 0
TypedFinds =
    (C : Context) (e : Environment) (c : Config) (i : WInstr) (rest : List WInstr) (room : ℕ) → IsTypedEnvironment C e → IsTypedConfig C e c → HasRoom C e c room
    → c.here.rest ≡ i ∷ rest → Finds (operation_of i) (plain_of c) room
