-- The worked instructions: each by its layer, and the nested ones before.
use Rattle.std.proofs.Common.{◌≡◌, ◌∙◌, [], ◌∷◌, ◌++◌, sym, ap, Some, None}
use Rattle.wasm_ast.specs.declared.types.ValTy.TheVariants.{I32, I64}
use Rattle.wasm_ast.specs.declared.instructions.WInstr.{WInstr, roll-WInstr, Unreachable, Nop}
use Rattle.wasm_ast.specs.declared.instructions.WInstr.TheOpen.{WInstr-F}
use Rattle.wasm_ast.specs.declared.instructions.WInstr.TheVariants.{rolls-Unreachable, rolls-Nop, rolls-Block, rolls-Loop, rolls-If, rolls-IfElse, rolls-BrIf, rolls-BrTable, rolls-CallIndirect, rolls-LocalGet, rolls-I64Load, rolls-I32Store16, rolls-MemoryGrow, rolls-I32Const, rolls-I64Const, rolls-I64ShrU}
use Rattle.wasm_ast.specs.Opcodes.{opcode_in}
use Rattle.wasm_ast.specs.Immediates.{immediate_in}
use Rattle.wasm_grammar.proofs.InstructionLayers.{instruction_bytes-roll}
use Rattle.wasm_grammar.specs.CanonicalInstructions.{immediate_bytes, instruction_bytes}
use Rattle.wasm_grammar.specs.WorkedInstructions.{WorkedPlainInstructions, WorkedBlocks}

-- the bytes of an instruction from its layer
by_layer : (x : WInstr-F WInstr) (w : WInstr) → roll-WInstr x ≡ w → instruction_bytes w ≡ opcode_in x ∷ immediate_bytes instruction_bytes (immediate_in x)
by_layer x w rolls = ap instruction_bytes (sym rolls) ∙ instruction_bytes-roll x

nop : instruction_bytes Nop ≡ 0x01 ∷ []
nop = by_layer WInstr-F.Nop Nop rolls-Nop

unreachable : instruction_bytes Unreachable ≡ 0x00 ∷ []
unreachable = by_layer WInstr-F.Unreachable Unreachable rolls-Unreachable

pub worked_plain_instructions : WorkedPlainInstructions
worked_plain_instructions = record {
  shift = by_layer WInstr-F.I64ShrU _ rolls-I64ShrU;
  branch = by_layer (WInstr-F.BrIf 1) _ (rolls-BrIf 1);
  local = by_layer (WInstr-F.LocalGet 200) _ (rolls-LocalGet 200);
  table = by_layer (WInstr-F.BrTable (1 ∷ 0 ∷ []) 3) _ (rolls-BrTable (1 ∷ 0 ∷ []) 3);
  indirect = by_layer (WInstr-F.CallIndirect 5) _ (rolls-CallIndirect 5);
  grow = by_layer WInstr-F.MemoryGrow _ rolls-MemoryGrow;
  load = by_layer (WInstr-F.I64Load 3 8) _ (rolls-I64Load 3 8);
  store = by_layer (WInstr-F.I32Store16 1 300) _ (rolls-I32Store16 1 300);
  greatest = by_layer (WInstr-F.I32Const 0x7FFF_FFFF) _ (rolls-I32Const 0x7FFF_FFFF);
  least = by_layer (WInstr-F.I32Const 0x8000_0000) _ (rolls-I32Const 0x8000_0000);
  minus_one = by_layer (WInstr-F.I64Const 0xFFFF_FFFF_FFFF_FFFF) _ (rolls-I64Const 0xFFFF_FFFF_FFFF_FFFF);
  sixty_four = by_layer (WInstr-F.I64Const 64) _ (rolls-I64Const 64);
}

pub worked_blocks : WorkedBlocks
worked_blocks = record {
  block = by_layer (WInstr-F.Block None (Nop ∷ [])) _ (rolls-Block None (Nop ∷ [])) ∙ ap (λ body. 0x02 ∷ 0x40 ∷ ((body ++ []) ++ 0x0B ∷ [])) nop;
  loop = by_layer (WInstr-F.Loop (Some I32) []) _ (rolls-Loop (Some I32) []);
  one_arm = by_layer (WInstr-F.If None (Nop ∷ [])) _ (rolls-If None (Nop ∷ [])) ∙ ap (λ arm. 0x04 ∷ 0x40 ∷ ((arm ++ []) ++ 0x0B ∷ [])) nop;
  empty_arm = by_layer (WInstr-F.IfElse None (Nop ∷ []) []) _ (rolls-IfElse None (Nop ∷ []) []) ∙ ap (λ arm. 0x04 ∷ 0x40 ∷ ((arm ++ []) ++ (0x05 ∷ 0x0B ∷ []))) nop;
  two_arms =
      by_layer (WInstr-F.IfElse (Some I64) (Nop ∷ []) (Unreachable ∷ [])) _ (rolls-IfElse (Some I64) (Nop ∷ []) (Unreachable ∷ []))
      ∙ ap (λ arm. 0x04 ∷ 0x7E ∷ ((arm ++ []) ++ (0x05 ∷ ((instruction_bytes Unreachable ++ []) ++ 0x0B ∷ [])))) nop
      ∙ ap (λ arm. 0x04 ∷ 0x7E ∷ ((0x01 ∷ []) ++ (0x05 ∷ ((arm ++ []) ++ 0x0B ∷ [])))) unreachable;
}
