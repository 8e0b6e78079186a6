-- Constant expressions in the middle (WebAssembly Core Specification 1.0, section 5.4.6); the states are this project's own.
use Rattle.wasm_ast.specs.declared.instructions.WInstr.{WInstr}
use Rattle.wasm_reading.specs.Readers.{Reader, ◌>>=◌, give}
use Rattle.wasm_reading.specs.ReadValues.{tag_at, only}
use Rattle.wasm_reading.specs.ReadInstructions.{constant_at, constant_kind_of, plain_at}
use Rattle.wasm_items.specs.declared.constant.ConstantState.{ConstantState}
use Rattle.wasm_items.specs.declared.constant.ConstantState.TheVariants.{Opcode, Instruction, End}
use Rattle.wasm_items.specs.Residuals.{WantsAByte}
use Rattle.wasm_items.specs.WantsBytes.{wants_then, wants_here, wants_byte, wants_tag}
use Rattle.wasm_items.specs.ImmediateStates.{rest_of_immediates, wants_immediates}

-- the end behind an instruction
abbrev pub end_behind : WInstr → Reader WInstr
end_behind instruction = do
  _ ← tag_at (only 0x0B)
  give instruction

-- a constant expression in the middle
abbrev pub rest_of_constant : ConstantState → Reader WInstr
rest_of_constant (Opcode alloc) = constant_at
rest_of_constant (Instruction immediates) = rest_of_immediates immediates >>= end_behind
rest_of_constant (End instruction) = end_behind instruction

-- a constant expression wants a byte
pub wants_constant : (state : ConstantState) → WantsAByte (rest_of_constant state)
wants_constant (Opcode alloc) = wants_here (λ place. wants_then (λ opcode. plain_at place opcode (constant_kind_of opcode) >>= end_behind) wants_byte)
wants_constant (Instruction immediates) = wants_then end_behind (wants_immediates immediates)
wants_constant (End instruction) = wants_then (λ _. give instruction) (wants_tag (only 0x0B))
