-- What instructions that stay in their call have to find, and which may want memory (this project's own).
use Rattle.std.specs.Prelude.{ℕ, ◌<◌, List, length}
use Rattle.wasm_operators.specs.declared.Width.TheVariants.{W32}
use Rattle.wasm_ast.specs.declared.instructions.WInstr.{WInstr}
use Rattle.wasm_ast.specs.Operations.{Operation}
use Rattle.wasm_ast.specs.Operations as operation
use Rattle.wasm_plain_steps.specs.Operands.{HasOne}
use Rattle.wasm_plain_dispatch.specs.Plain.{Plain, FindsPlain}

-- what an instruction that stays in its call has to find, with room for so many more operands; no other instruction stays
abbrev pub FindsInCall : Operation WInstr → Plain → ℕ → Type 0
FindsInCall operation.Unreachable p room = Unit {0}
FindsInCall (operation.Block t xs) p room = Unit {0}
FindsInCall (operation.Loop t xs) p room = Unit {0}
FindsInCall (operation.If t xs) p room = 0 < length p.operands
FindsInCall (operation.IfElse t xs ys) p room = 0 < length p.operands
FindsInCall (operation.Br label) p room = ⊥
FindsInCall (operation.BrIf label) p room = ⊥
FindsInCall (operation.BrTable labels default) p room = ⊥
FindsInCall operation.Return p room = ⊥
FindsInCall (operation.Call n) p room = ⊥
FindsInCall (operation.CallIndirect n) p room = ⊥
FindsInCall operation.MemoryGrow p room = HasOne W32 p.operands
FindsInCall o p room = FindsPlain o p room

-- instructions that may want memory
abbrev pub Allocates : {A : Type 0} → Operation A → Type 0
Allocates (operation.Block _ _) = Unit {0}
Allocates (operation.Loop _ _) = Unit {0}
Allocates (operation.If _ _) = Unit {0}
Allocates (operation.IfElse _ _ _) = Unit {0}
Allocates (operation.Call _) = Unit {0}
Allocates (operation.CallIndirect _) = Unit {0}
Allocates operation.MemoryGrow = Unit {0}
Allocates _ = ⊥
