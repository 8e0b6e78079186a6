-- Bodies that take a cell apart, free it, or leave it behind. This project's own.
use Rattle.std.specs.Prelude.{[], ◌∷◌, Some, None}
use Rattle.rw_types.specs.declared.instrs.Instr.{Br, Drop, Group, I64Const, LocalGet, LocalSet, Qualify, RefJoin, RefSplit, StructFree, StructGet, StructMalloc, StructSet, Unit}
use Rattle.rw_types.specs.declared.instrs.Instr.TheVariants.{Block, MemUnpack}
use Rattle.rw_types.specs.declared.types.Heap.TheVariants.{Struct}
use Rattle.rw_types.specs.declared.types.Mem.TheVariants.{L, U}
use Rattle.rw_types.specs.declared.types.Pre.{I64, Ptr}
use Rattle.rw_types.specs.declared.types.Qual.TheVariants.{Lin, Unr}
use Rattle.rw_types.specs.declared.types.Ty.{Of}
use Rattle.rich_types.specs.Rows.{hidden_reference, long, slot, tuple}
use Rattle.rich_typing.specs.declared.rules.Rule.TheVariants as rule
use Rattle.rich_rules_rows.specs.Samples.{Accepted, BodyRefused, functions, main_function, plain}

-- a cell is written and freed, or its address outlives it; a slot is too small, an address is of another location, a cell is freed twice, a branch leaves a cell behind
pub record WorkedPrograms : Type 0 where
  pub a_cell_is_written_and_freed : Accepted (functions (main_function [] (I64Const 5 ∷ StructMalloc L (1 ∷ []) ∷ MemUnpack plain (I64Const 9 ∷ StructMalloc U (1 ∷ []) ∷ StructSet 0 ∷ StructGet 0 ∷ Drop ∷ StructFree ∷ []) ∷ I64Const 0 ∷ []) ∷ []))
  pub a_slot_is_too_small : BodyRefused [] (I64Const 5 ∷ StructMalloc L (1 ∷ []) ∷ MemUnpack plain (I64Const 1 ∷ I64Const 2 ∷ Group 2 Unr ∷ StructSet 0 ∷ StructFree ∷ []) ∷ I64Const 0 ∷ []) (2 ∷ 0 ∷ 3 ∷ []) rule.SlotSize (Some (tuple (long ∷ long ∷ []))) None
  pub an_address_outlives_its_cell : Accepted (functions (main_function (1 ∷ []) (I64Const 1 ∷ StructMalloc L (1 ∷ []) ∷ MemUnpack plain (RefSplit ∷ LocalSet 0 ∷ LocalGet 0 ∷ RefJoin ∷ StructFree ∷ I64Const 2 ∷ StructMalloc L (1 ∷ []) ∷ MemUnpack plain (StructFree ∷ []) ∷ Unit ∷ LocalSet 0 ∷ []) ∷ I64Const 0 ∷ []) ∷ []))
  pub an_address_of_another_location : BodyRefused (1 ∷ []) (I64Const 1 ∷ StructMalloc L (1 ∷ []) ∷ MemUnpack plain (RefSplit ∷ LocalSet 0 ∷ LocalGet 0 ∷ RefJoin ∷ StructFree ∷ I64Const 2 ∷ StructMalloc L (1 ∷ []) ∷ MemUnpack plain (RefSplit ∷ Drop ∷ LocalGet 0 ∷ RefJoin ∷ StructFree ∷ []) ∷ Unit ∷ LocalSet 0 ∷ []) ∷ I64Const 0 ∷ []) (2 ∷ 0 ∷ 7 ∷ 0 ∷ 3 ∷ []) rule.LocationsDiffer (Some (Of Unr (Ptr 1))) (Some (Of Unr (Ptr 0)))
  pub a_cell_is_freed_twice : BodyRefused [] (I64Const 1 ∷ StructMalloc L (1 ∷ []) ∷ MemUnpack plain (StructFree ∷ StructFree ∷ []) ∷ I64Const 0 ∷ []) (2 ∷ 0 ∷ 1 ∷ []) rule.Operands None None
  pub a_branch_leaves_a_cell_behind : BodyRefused [] (Block plain (I64Const 1 ∷ StructMalloc L (1 ∷ []) ∷ Br 0 ∷ []) ∷ I64Const 0 ∷ []) (0 ∷ 0 ∷ 2 ∷ []) rule.Crossed (Some (hidden_reference Lin L (Struct (slot long 1 ∷ [])))) None
  pub a_branch_leaves_a_linear_number_behind : BodyRefused [] (Block plain (I64Const 1 ∷ Qualify ∷ Br 0 ∷ []) ∷ I64Const 0 ∷ []) (0 ∷ 0 ∷ 2 ∷ []) rule.Crossed (Some (Of Lin I64)) None
