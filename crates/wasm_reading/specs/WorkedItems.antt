-- Items and entries of a module that are written out, with what reading them from place 0 gives, by hand from the
-- WebAssembly Core Specification 1.0, sections 5.1.3 to 5.5.13; the rows are this project's own.
use Rattle.std.specs.Prelude.{◌≡◌, ℕ, List, [], ◌∷◌, Some, None, Result, Ok, Err}
use Rattle.std.specs.Result.{result_map_both}
use Rattle.wasm_ast.specs.declared.modules.Code.{Code}
use Rattle.wasm_ast.specs.declared.types.ValTy.TheVariants.{I64}
use Rattle.wasm_ast.specs.declared.instructions.WInstr.{WInstr, roll-WInstr}
use Rattle.wasm_ast.specs.declared.instructions.WInstr.TheOpen.{WInstr-F}
use Rattle.wasm_reading.specs.declared.fault.DecodeError.{DecodeError}
use Rattle.wasm_reading.specs.declared.fault.DecodeFault.{DecodeFault}
use Rattle.wasm_reading.specs.declared.fault.DecodeFault.TheVariants.{Truncated, BadLeb, BadTag, BadLength, FloatOutside, LimitOutside}
use Rattle.wasm_reading.specs.Readers.{Reader, byte_at}
use Rattle.wasm_reading.specs.ReadValues.{tag_at, u32_at, vector_at}
use Rattle.wasm_reading.specs.ReadTypes.{value_type_of, table_at, memory_at}
use Rattle.wasm_reading.specs.ReadInstructions.{constant_at, kind_of, plain_at}
use Rattle.wasm_reading.specs.ReadModules.{code_at}

-- what a reader makes of bytes, the first of which stands at place 0
abbrev pub read : {A : Type 0} → Reader A → List ℕ → Result A DecodeError
read reader bytes = result_map_both (λ done. done.0) (λ e. e) (reader (record { at = 0; end = None; rest = bytes }))

-- the first fault, and its place
abbrev pub fault : {A : Type 0} → ℕ → DecodeFault → Result A DecodeError
fault at what = Err (record { at = at; fault = what })

-- the instruction of an opcode and the bytes of its immediates
abbrev pub instruction : ℕ → List ℕ → Result WInstr DecodeError
instruction opcode = read (plain_at 0 opcode (kind_of opcode))

-- vectors of numbers, in two bytes where one would do, of bytes and of types; limits; constants; and their faults
pub record WorkedItems : Type 0 where
  pub numbers : read (vector_at u32_at) (0x03 ∷ 0x01 ∷ 0x80 ∷ 0x02 ∷ 0x80 ∷ 0x00 ∷ []) ≡ Ok (1 ∷ 256 ∷ 0 ∷ [])
  pub number_too_great : read u32_at (0x80 ∷ 0x80 ∷ 0x80 ∷ 0x80 ∷ 0x1F ∷ []) ≡ fault 4 BadLeb
  pub bytes : read (vector_at byte_at) (0x02 ∷ 0xFF ∷ []) ≡ fault 2 Truncated
  pub table : read table_at (0x70 ∷ 0x01 ∷ 0x0A ∷ 0x14 ∷ []) ≡ Ok (record { min = 10; max = Some 20 })
  pub memory : read memory_at (0x00 ∷ 0x81 ∷ 0x08 ∷ []) ≡ fault 1 LimitOutside
  pub types : read (vector_at (tag_at value_type_of)) (0x01 ∷ 0x7E ∷ []) ≡ Ok (I64 ∷ [])
  pub constant : read constant_at (0x42 ∷ 0x7F ∷ 0x0B ∷ []) ≡ Ok (roll-WInstr (WInstr-F.I64Const 0xFFFF_FFFF_FFFF_FFFF))
  pub float : read constant_at (0x43 ∷ 0x00 ∷ []) ≡ fault 0 FloatOutside

-- an instruction of each kind of immediates, behind its opcode
pub record WorkedImmediates : Type 0 where
  pub labels : instruction 0x0E (0x01 ∷ 0x05 ∷ 0x02 ∷ []) ≡ Ok (roll-WInstr (WInstr-F.BrTable (5 ∷ []) 2))
  pub index_zero : instruction 0x11 (0x07 ∷ 0x00 ∷ []) ≡ Ok (roll-WInstr (WInstr-F.CallIndirect 7))
  pub memory_argument : instruction 0x28 (0x02 ∷ 0x08 ∷ []) ≡ Ok (roll-WInstr (WInstr-F.I32Load 2 8))
  pub no_zero : instruction 0x3F (0x01 ∷ []) ≡ fault 0 BadTag
  pub constant : instruction 0x41 (0x78 ∷ []) ≡ Ok (roll-WInstr (WInstr-F.I32Const 0xFFFF_FFF8))

-- an entry of this size: two locals of type i64, and a body of a constant and an if with two arms
abbrev pub entry : ℕ → List ℕ
entry size = size ∷ 0x01 ∷ 0x02 ∷ 0x7E ∷ 0x41 ∷ 0x7F ∷ 0x04 ∷ 0x40 ∷ 0x01 ∷ 0x05 ∷ 0x00 ∷ 0x0B ∷ 0x0B ∷ []

-- the tree of that entry
abbrev pub entry_tree : Code
entry_tree = record {
  locals = record { count = 2; ty = I64 } ∷ [];
  body =
      roll-WInstr (WInstr-F.I32Const 0xFFFF_FFFF) ∷
      roll-WInstr (WInstr-F.IfElse None (roll-WInstr WInstr-F.Nop ∷ []) (roll-WInstr WInstr-F.Unreachable ∷ [])) ∷
      [];
}

-- the entry is read, and where its size is one byte too small its body does not end where it was to end
pub record WorkedEntries : Type 0 where
  pub whole : read code_at (entry 12) ≡ Ok entry_tree
  pub small : read code_at (entry 11) ≡ fault 12 BadLength
