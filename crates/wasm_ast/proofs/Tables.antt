-- The tables give each instruction back from its opcode and immediates, so these tell instructions apart.
use Rattle.std.proofs.Common.{◌≡◌, ◌∙◌, ◌<◌, Some, refl, sym, ap, lit<}
use Rattle.wasm_ast.specs.declared.instructions.WInstr.{WInstr, out-WInstr, roll-WInstr, roll-out-WInstr}
use Rattle.wasm_ast.specs.declared.instructions.WInstr.TheOpen.{WInstr-F}
use Rattle.wasm_ast.specs.Opcodes.{opcode_in}
use Rattle.wasm_ast.specs.Immediates.{immediate_in}
use Rattle.wasm_ast.specs.ByOpcode.{instruction_at}
use Rattle.wasm_ast.specs.OpcodeLaws.{OpcodesTellApart, OpcodesAreBytes}

pub instruction_at-found : {A : Type 0} (x : WInstr-F A) → instruction_at (opcode_in x) (immediate_in x) ≡ Some x
instruction_at-found WInstr-F.Unreachable = refl
instruction_at-found _ = refl

same_layer : (x y : WInstr-F WInstr) → opcode_in x ≡ opcode_in y → immediate_in x ≡ immediate_in y → x ≡ y
same_layer x y o i =
    let e : Some x ≡ Some y =
    sym (instruction_at-found x) ∙ ap (λ opcode. instruction_at opcode (immediate_in x)) o
    ∙ ap (instruction_at (opcode_in y)) i ∙ instruction_at-found y in
    cc

pub opcodes_tell_apart : OpcodesTellApart
opcodes_tell_apart v w o i =
    sym (roll-out-WInstr v) ∙ ap roll-WInstr (same_layer (out-WInstr v) (out-WInstr w) o i) ∙ roll-out-WInstr w

opcode_in-byte : (x : WInstr-F WInstr) → opcode_in x < 256
opcode_in-byte WInstr-F.Unreachable = lit< tt
opcode_in-byte _ = lit< tt

pub opcodes_are_bytes : OpcodesAreBytes
opcodes_are_bytes w = opcode_in-byte (out-WInstr w)
