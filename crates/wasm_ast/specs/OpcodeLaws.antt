-- What the tables of opcodes and immediates obey (this project's own).
use Rattle.std.specs.Prelude.{◌≡◌, ◌<◌}
use Rattle.wasm_ast.specs.declared.instructions.WInstr.{WInstr}
use Rattle.wasm_ast.specs.Opcodes.{opcode_of}
use Rattle.wasm_ast.specs.Immediates.{immediate_of}

-- an instruction is known by its opcode and its immediates
abbrev pub OpcodesTellApart : Type 0
OpcodesTellApart = (v w : WInstr) → opcode_of v ≡ opcode_of w → immediate_of v ≡ immediate_of w → v ≡ w

-- an opcode is a byte
abbrev pub OpcodesAreBytes : Type 0
OpcodesAreBytes = (w : WInstr) → opcode_of w < 256
