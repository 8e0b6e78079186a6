-- Rows of the standard's index of instructions (WebAssembly Core Specification 1.0, appendix "Index of Instructions"):
-- an instruction of each kind and each place in the tables by opcode, and what its bytes are.
use Rattle.std.specs.Prelude.{◌≡◌, ℕ, List, [], ◌∷◌, map, Some, None}
use Rattle.wasm_ast.specs.declared.types.ValTy.TheVariants as types
use Rattle.wasm_ast.specs.declared.instructions.WInstr.TheOpen.{WInstr-F}
use Rattle.wasm_ast.specs.Opcodes.{opcode_in}
use Rattle.wasm_ast.specs.Immediates.{Immediate, immediate_in}
use Rattle.wasm_ast.specs.ByOpcode.{instruction_at}

-- an instruction, in which numbers stand for the nested ones, its opcode and its immediates
abbrev pub Row : Type 0
Row = WInstr-F ℕ × ℕ × Immediate ℕ

abbrev pub index_rows : List Row
index_rows =
    (WInstr-F.Unreachable, 0x00, Immediate.Bare) ∷
    (WInstr-F.Block None (1 ∷ []), 0x02, Immediate.Body None (1 ∷ [])) ∷
    (WInstr-F.Loop (Some types.I32) [], 0x03, Immediate.Body (Some types.I32) []) ∷
    (WInstr-F.If None (1 ∷ 2 ∷ []), 0x04, Immediate.Body None (1 ∷ 2 ∷ [])) ∷
    (WInstr-F.IfElse (Some types.I64) (1 ∷ []) (2 ∷ []), 0x04, Immediate.Bodies (Some types.I64) (1 ∷ []) (2 ∷ [])) ∷
    (WInstr-F.BrIf 1, 0x0D, Immediate.Index 1) ∷
    (WInstr-F.BrTable (1 ∷ 0 ∷ []) 2, 0x0E, Immediate.Labels (1 ∷ 0 ∷ []) 2) ∷
    (WInstr-F.Return, 0x0F, Immediate.Bare) ∷
    (WInstr-F.CallIndirect 7, 0x11, Immediate.IndexZero 7) ∷
    (WInstr-F.Select, 0x1B, Immediate.Bare) ∷
    (WInstr-F.LocalGet 3, 0x20, Immediate.Index 3) ∷
    (WInstr-F.GlobalSet 4, 0x24, Immediate.Index 4) ∷
    (WInstr-F.I32Load 2 8, 0x28, Immediate.MemArg 2 8) ∷
    (WInstr-F.I64Load 3 8, 0x29, Immediate.MemArg 3 8) ∷
    (WInstr-F.I32Load8S 0 8, 0x2C, Immediate.MemArg 0 8) ∷
    (WInstr-F.I32Load16U 1 8, 0x2F, Immediate.MemArg 1 8) ∷
    (WInstr-F.I64Load8U 0 8, 0x31, Immediate.MemArg 0 8) ∷
    (WInstr-F.I64Load32U 2 8, 0x35, Immediate.MemArg 2 8) ∷
    (WInstr-F.I32Store 2 8, 0x36, Immediate.MemArg 2 8) ∷
    (WInstr-F.I64Store 3 8, 0x37, Immediate.MemArg 3 8) ∷
    (WInstr-F.I32Store16 1 8, 0x3B, Immediate.MemArg 1 8) ∷
    (WInstr-F.I64Store32 2 8, 0x3E, Immediate.MemArg 2 8) ∷
    (WInstr-F.MemoryGrow, 0x40, Immediate.Zero) ∷
    (WInstr-F.I32Const 5, 0x41, Immediate.Const32 5) ∷
    (WInstr-F.I64Const 6, 0x42, Immediate.Const64 6) ∷
    (WInstr-F.I32Eqz, 0x45, Immediate.Bare) ∷
    (WInstr-F.I32GeU, 0x4F, Immediate.Bare) ∷
    (WInstr-F.I64Eqz, 0x50, Immediate.Bare) ∷
    (WInstr-F.I64LtU, 0x54, Immediate.Bare) ∷
    (WInstr-F.I32Popcnt, 0x69, Immediate.Bare) ∷
    (WInstr-F.I32DivS, 0x6D, Immediate.Bare) ∷
    (WInstr-F.I32Rotr, 0x78, Immediate.Bare) ∷
    (WInstr-F.I64Clz, 0x79, Immediate.Bare) ∷
    (WInstr-F.I64ShrU, 0x88, Immediate.Bare) ∷
    (WInstr-F.I64Rotr, 0x8A, Immediate.Bare) ∷
    (WInstr-F.I32WrapI64, 0xA7, Immediate.Bare) ∷
    (WInstr-F.I64ExtendI32S, 0xAC, Immediate.Bare) ∷
    (WInstr-F.I64ExtendI32U, 0xAD, Immediate.Bare) ∷
    []

-- the tables by instruction have its opcode and its immediates, those by opcode have it back, and nothing stands at the
-- opcode of `end`, at one of floating point, or at that of a load without its immediates
pub record WorkedOpcodes : Type 0 where
  pub opcodes : map (λ row. opcode_in row.0) index_rows ≡ map (λ row. row.1) index_rows
  pub immediates : map (λ row. immediate_in row.0) index_rows ≡ map (λ row. row.2) index_rows
  pub instructions : map (λ row. instruction_at row.1 row.2) index_rows ≡ map (λ row. Some row.0) index_rows
  pub end : instruction_at {A = ℕ} 0x0B Immediate.Bare ≡ None
  pub float : instruction_at {A = ℕ} 0x2A (Immediate.MemArg 2 8) ≡ None
  pub bare_load : instruction_at {A = ℕ} 0x28 Immediate.Bare ≡ None
