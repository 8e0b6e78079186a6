-- What is computed of an instruction from its opcode and its immediates alone (this project's own).
use Rattle.std.specs.Prelude.{ℕ}
use Rattle.wasm_ast.specs.declared.instructions.WInstr.{WInstr, fold-WInstr}
use Rattle.wasm_ast.specs.Opcodes.{opcode_in}
use Rattle.wasm_ast.specs.Immediates.{Immediate, immediate_in}

-- `value` of the opcode and of the immediates, in which each nested instruction is replaced by what is computed of it
abbrev pub fold_by : {X : Type 0} → (ℕ → Immediate X → X) → WInstr → X
fold_by {X} value = fold-WInstr X (λ x. value (opcode_in x) (immediate_in x))
