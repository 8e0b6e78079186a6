-- What may leave the call that runs (WebAssembly Core Specification 1.0, sections 4.4.5 and 4.4.7).
use Rattle.std.specs.Prelude.{List, [], ◌∷◌}
use Rattle.wasm_ast.specs.declared.instructions.WInstr.{WInstr}
use Rattle.wasm_ast.specs.Operations.{Operation, operation_of}
use Rattle.wasm_ast.specs.Operations as operation

-- instructions that may
abbrev pub Leaves : {A : Type 0} → Operation A → Type 0
Leaves (operation.Br _) = Unit {0}
Leaves (operation.BrIf _) = Unit {0}
Leaves (operation.BrTable _ _) = Unit {0}
Leaves operation.Return = Unit {0}
Leaves _ = ⊥

-- what is left of the list is nothing, or such an instruction is next
abbrev pub LeavesNext : List WInstr → Type 0
LeavesNext [] = Unit {0}
LeavesNext (i ∷ rest) = Leaves (operation_of i)
