-- An instruction of each kind of immediates, and its canonical bytes, written out (WebAssembly Core Specification 1.0,
-- section 5.4; the rows are this project's own).
use Rattle.std.specs.Prelude.{◌≡◌, [], ◌∷◌, Some, None}
use Rattle.wasm_ast.specs.declared.types.ValTy.TheVariants.{I32, I64}
use Rattle.wasm_ast.specs.declared.instructions.WInstr.{Unreachable, Nop, Block, Loop, If, IfElse, BrIf, BrTable, CallIndirect, LocalGet, I64Load, I32Store16, MemoryGrow, I32Const, I64Const, I64ShrU}
use Rattle.wasm_grammar.specs.CanonicalInstructions.{instruction_bytes}

-- without nested instructions: an opcode alone, an index, labels and the default, a type's index and a zero byte, a zero
-- byte, the alignment's exponent and the offset, the greatest and the least number of 32 bits, and one of 64
pub record WorkedPlainInstructions : Type 0 where
  pub shift : instruction_bytes I64ShrU ≡ 0x88 ∷ []
  pub branch : instruction_bytes (BrIf 1) ≡ 0x0D ∷ 0x01 ∷ []
  pub local : instruction_bytes (LocalGet 200) ≡ 0x20 ∷ 0xC8 ∷ 0x01 ∷ []
  pub table : instruction_bytes (BrTable (1 ∷ 0 ∷ []) 3) ≡ 0x0E ∷ 0x02 ∷ 0x01 ∷ 0x00 ∷ 0x03 ∷ []
  pub indirect : instruction_bytes (CallIndirect 5) ≡ 0x11 ∷ 0x05 ∷ 0x00 ∷ []
  pub grow : instruction_bytes MemoryGrow ≡ 0x40 ∷ 0x00 ∷ []
  pub load : instruction_bytes (I64Load 3 8) ≡ 0x29 ∷ 0x03 ∷ 0x08 ∷ []
  pub store : instruction_bytes (I32Store16 1 300) ≡ 0x3B ∷ 0x01 ∷ 0xAC ∷ 0x02 ∷ []
  pub greatest : instruction_bytes (I32Const 0x7FFF_FFFF) ≡ 0x41 ∷ 0xFF ∷ 0xFF ∷ 0xFF ∷ 0xFF ∷ 0x07 ∷ []
  pub least : instruction_bytes (I32Const 0x8000_0000) ≡ 0x41 ∷ 0x80 ∷ 0x80 ∷ 0x80 ∷ 0x80 ∷ 0x78 ∷ []
  pub minus_one : instruction_bytes (I64Const 0xFFFF_FFFF_FFFF_FFFF) ≡ 0x42 ∷ 0x7F ∷ []
  pub sixty_four : instruction_bytes (I64Const 64) ≡ 0x42 ∷ 0xC0 ∷ 0x00 ∷ []

-- with nested instructions: a block without a result, a loop with one, and an if without `else` and with it
pub record WorkedBlocks : Type 0 where
  pub block : instruction_bytes (Block None (Nop ∷ [])) ≡ 0x02 ∷ 0x40 ∷ 0x01 ∷ 0x0B ∷ []
  pub loop : instruction_bytes (Loop (Some I32) []) ≡ 0x03 ∷ 0x7F ∷ 0x0B ∷ []
  pub one_arm : instruction_bytes (If None (Nop ∷ [])) ≡ 0x04 ∷ 0x40 ∷ 0x01 ∷ 0x0B ∷ []
  pub empty_arm : instruction_bytes (IfElse None (Nop ∷ []) []) ≡ 0x04 ∷ 0x40 ∷ 0x01 ∷ 0x05 ∷ 0x0B ∷ []
  pub two_arms : instruction_bytes (IfElse (Some I64) (Nop ∷ []) (Unreachable ∷ [])) ≡ 0x04 ∷ 0x7E ∷ 0x01 ∷ 0x05 ∷ 0x00 ∷ 0x0B ∷ []
