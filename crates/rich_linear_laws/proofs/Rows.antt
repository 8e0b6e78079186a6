-- Each row of the table exchanges operands in a named way.
use Rattle.std.proofs.Common.{[], ◌∷◌, refl, length}
use Rattle.rw_types.specs.declared.instrs.Instr.{Instr, Nop, Unreachable, Drop, Unit, Print, I32Const, I64Const, Num, Block', Loop', If', Br, BrIf, Return, LocalGet, LocalTake, LocalSet, GlobalGet, GlobalSet, Coderef, Inst, Call, CallIndirect, Qualify, RecFold, RecUnfold, Group, Ungroup, MemPack, MemUnpack', RefSplit, RefJoin, CapSplit, CapJoin, StructMalloc, StructFree, StructGet, StructSet, StructSwap, VariantMalloc, VariantCase', ArrayMalloc, ArrayGet, ArraySet, ArrayLen, ArrayFree, ExistPack, ExistUnpack'}
use Rattle.rich_types.specs.Scopes.{scope_of}
use Rattle.rich_rules.specs.Numbers.{num_sig}
use Rattle.rich_rules.specs.Points.{Frame, Point}
use Rattle.rich_rules.specs.Table.{lists_of, row}
use Rattle.rich_rules.specs.Takers.{unr_i32, unr_i64, unr_unit}
use Rattle.rich_rules_formed.specs.Formed.{IsFormedPoint}
use Rattle.rich_linear_laws.specs.Exchanges.{AreGlobalsUnrestricted, GivesByExchange}
use Rattle.rich_linear_laws.specs.Laws.{RowsExchange}
use Rattle.rich_linear_laws.proofs.Exchanged.{in_functions, nothing, number_passed, only_unr, row_array_free, row_array_get, row_array_len, row_array_malloc, row_array_set, row_block, row_br, row_br_if, row_call, row_call_indirect, row_cap_join, row_cap_split, row_coderef, row_drop, row_exist_pack, row_exist_unpack, row_fold, row_from_to, row_global_get, row_global_set, row_group, row_if, row_inst, row_local_get, row_local_set, row_local_take, row_loop, row_mem_pack, row_mem_unpack, row_qualify, row_ref_join, row_ref_split, row_return, row_struct_free, row_struct_get, row_struct_malloc, row_struct_set, row_struct_swap, row_unfold, row_ungroup, row_variant_case, row_variant_malloc}

module _ (f : Frame) (p : Point) (globals : AreGlobalsUnrestricted f.globals) (w : IsFormedPoint p) where
  row_exchanges : (i : Instr) → GivesByExchange f p (row f p i)
  unfolding row
  row_exchanges Nop = nothing f p
  row_exchanges Unreachable = tt
  row_exchanges Drop = row_drop f p
  row_exchanges Unit = only_unr f p unr_unit refl
  row_exchanges Print = row_from_to f p (unr_i64 ∷ []) [] refl
  row_exchanges (I32Const n) = only_unr f p unr_i32 refl
  row_exchanges (I64Const n) = only_unr f p unr_i64 refl
  row_exchanges (Num n) = row_from_to f p (num_sig n).taken ((num_sig n).given ∷ []) (number_passed (scope_of p.binders) n)
  row_exchanges (Block' b m is) = row_block f p b
  row_exchanges (Loop' b m is) = row_loop f p b
  row_exchanges (If' b m is n js) = row_if f p b
  row_exchanges (Br k) = row_br f p k
  row_exchanges (BrIf k) = row_br_if f p k
  row_exchanges Return = in_functions f p f.owner _ (row_return f p)
  row_exchanges (LocalGet n) = in_functions f p f.owner _ (row_local_get f p n)
  row_exchanges (LocalTake n) = in_functions f p f.owner _ (row_local_take f p n)
  row_exchanges (LocalSet n) = in_functions f p f.owner _ (row_local_set f p f.slots n)
  row_exchanges (GlobalGet n) = row_global_get f p globals n
  row_exchanges (GlobalSet n) = row_global_set f p globals n
  row_exchanges (Coderef n) = row_coderef f p n
  row_exchanges (Inst args) = row_inst f p args
  row_exchanges (Call n args) = in_functions f p f.owner _ (row_call f p n args)
  row_exchanges CallIndirect = in_functions f p f.owner _ (row_call_indirect f p)
  row_exchanges Qualify = row_qualify f p
  row_exchanges (RecFold t) = row_fold f p t
  row_exchanges RecUnfold = row_unfold f p
  row_exchanges (Group n q) = row_group f p n q
  row_exchanges Ungroup = row_ungroup f p
  row_exchanges (MemPack l t) = row_mem_pack f p l t
  row_exchanges (MemUnpack' b m is) = row_mem_unpack f p b
  row_exchanges RefSplit = row_ref_split f p
  row_exchanges RefJoin = row_ref_join f p
  row_exchanges CapSplit = row_cap_split f p
  row_exchanges CapJoin = row_cap_join f p
  row_exchanges (StructMalloc m sizes) = row_struct_malloc f p m sizes
  row_exchanges StructFree = row_struct_free f p
  row_exchanges (StructGet i) = row_struct_get f p i
  row_exchanges (StructSet i) = row_struct_set f p i
  row_exchanges (StructSwap i) = row_struct_swap f p i
  row_exchanges (VariantMalloc m i ts) = row_variant_malloc f p m i ts
  row_exchanges (VariantCase' b m cases) = row_variant_case f p b (length (lists_of cases))
  row_exchanges (ArrayMalloc m) = row_array_malloc f p m
  row_exchanges ArrayGet = row_array_get f p w
  row_exchanges ArraySet = row_array_set f p w
  row_exchanges ArrayLen = row_array_len f p
  row_exchanges ArrayFree = row_array_free f p w
  row_exchanges (ExistPack m q s t body) = row_exist_pack f p m q s t body
  row_exchanges (ExistUnpack' b m is) = row_exist_unpack f p b

pub rows_exchange : RowsExchange
rows_exchange f p i globals w = row_exchanges f p globals w i
