-- Equations by which bytes and nesting go down an instruction one layer at a time (this project's own).
use Rattle.std.specs.Prelude.{◌≡◌, ◌∷◌}
use Rattle.wasm_ast.specs.declared.instructions.WInstr.{WInstr}
use Rattle.wasm_ast.specs.Opcodes.{opcode_of}
use Rattle.wasm_ast.specs.Immediates.{immediate_of}
use Rattle.wasm_grammar.specs.CanonicalInstructions.{immediate_bytes, instruction_bytes}
use Rattle.wasm_grammar.specs.Nesting.{immediate_nesting, nesting}

-- the bytes of an instruction are its opcode and its immediates, in which each nested instruction has its bytes
abbrev pub BytesByLayers : Type 0
BytesByLayers = (w : WInstr) → instruction_bytes w ≡ opcode_of w ∷ immediate_bytes instruction_bytes (immediate_of w)

-- the nesting of an instruction is that of its immediates
abbrev pub NestingByLayers : Type 0
NestingByLayers = (w : WInstr) → nesting w ≡ immediate_nesting nesting (immediate_of w)
