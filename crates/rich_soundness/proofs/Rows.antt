-- At every instruction a step is safe: the rows of the table, one by one.
use Rattle.rw_types.specs.declared.instrs.Instr.{Nop, Unreachable, Drop, Unit, Print, I32Const, I64Const, Num, Block', Loop', If', Br, BrIf, Return, LocalGet, LocalTake, LocalSet, GlobalGet, GlobalSet, Coderef, Inst, Call, CallIndirect, Qualify, RecFold, RecUnfold, Group, Ungroup, MemPack, MemUnpack', RefSplit, RefJoin, CapSplit, CapJoin, StructMalloc, StructFree, StructGet, StructSet, StructSwap, VariantMalloc, VariantCase', ArrayMalloc, ArrayGet, ArraySet, ArrayLen, ArrayFree, ExistPack, ExistUnpack'}
use Rattle.rich_soundness_rows.proofs.Operands.{operand_rows}
use Rattle.rich_soundness_rows.proofs.Numbers.{number_rows}
use Rattle.rich_soundness_rows.proofs.Locals.{local_rows}
use Rattle.rich_soundness_rows.proofs.Rights.{right_rows}
use Rattle.rich_soundness_tuples.proofs.Tuples.{tuple_rows}
use Rattle.rich_soundness_lists.proofs.Lists.{list_rows}
use Rattle.rich_soundness_branches.proofs.Branches.{branch_rows}
use Rattle.rich_soundness_blocks.proofs.Blocks.{blocks}
use Rattle.rich_soundness_calls.proofs.Calls.{call_rows}
use Rattle.rich_soundness_globals.proofs.Globals.{global_rows}
use Rattle.rich_soundness_packs.proofs.Packs.{pack_rows}
use Rattle.rich_soundness_entries.proofs.Locations.{location_rows}
use Rattle.rich_soundness_structs.proofs.Structs.{struct_rows}
use Rattle.rich_soundness_arrays.proofs.Arrays.{array_rows}
use Rattle.rich_soundness_variants.proofs.Variants.{variant_rows}
use Rattle.rich_soundness_packages.proofs.Packages.{package_rows}
use Rattle.rich_soundness_runs.specs.Laws.{RowsAreSafe}

pub rows_are_safe : RowsAreSafe
rows_are_safe Nop = operand_rows.nop
rows_are_safe Unreachable = operand_rows.unreachable
rows_are_safe Drop = operand_rows.drop
rows_are_safe Unit = operand_rows.unit
rows_are_safe Print = operand_rows.print
rows_are_safe (I32Const n) = operand_rows.i32_const n
rows_are_safe (I64Const n) = operand_rows.i64_const n
rows_are_safe (Num n) = number_rows n
rows_are_safe (Block' sig m body) = blocks sig m body
rows_are_safe (Loop' sig m body) = list_rows.loops sig m body
rows_are_safe (If' sig m one k other) = list_rows.arms sig m one k other
rows_are_safe (Br n) = branch_rows.br n
rows_are_safe (BrIf n) = branch_rows.br_if n
rows_are_safe Return = branch_rows.returns
rows_are_safe (LocalGet n) = local_rows.get n
rows_are_safe (LocalTake n) = local_rows.take n
rows_are_safe (LocalSet n) = local_rows.set n
rows_are_safe (GlobalGet n) = global_rows.get n
rows_are_safe (GlobalSet n) = global_rows.set n
rows_are_safe (Coderef n) = tuple_rows.coderef n
rows_are_safe (Inst args) = call_rows.inst args
rows_are_safe (Call n args) = call_rows.call n args
rows_are_safe CallIndirect = call_rows.call_indirect
rows_are_safe Qualify = operand_rows.qualify
rows_are_safe (RecFold t) = pack_rows.fold t
rows_are_safe RecUnfold = pack_rows.unfold_one
rows_are_safe (Group n q) = tuple_rows.group n q
rows_are_safe Ungroup = tuple_rows.ungroup
rows_are_safe (MemPack l t) = pack_rows.pack l t
rows_are_safe (MemUnpack' sig m body) = location_rows sig m body
rows_are_safe RefSplit = right_rows.ref_split
rows_are_safe RefJoin = right_rows.ref_join
rows_are_safe CapSplit = right_rows.cap_split
rows_are_safe CapJoin = right_rows.cap_join
rows_are_safe (StructMalloc m sizes) = struct_rows.malloc m sizes
rows_are_safe StructFree = struct_rows.free
rows_are_safe (StructGet n) = struct_rows.get n
rows_are_safe (StructSet n) = struct_rows.set n
rows_are_safe (StructSwap n) = struct_rows.swap n
rows_are_safe (VariantMalloc m n ts) = variant_rows.malloc m n ts
rows_are_safe (VariantCase' sig m arms) = variant_rows.enters sig m arms
rows_are_safe (ArrayMalloc m) = array_rows.malloc m
rows_are_safe ArrayGet = array_rows.get
rows_are_safe ArraySet = array_rows.set
rows_are_safe ArrayLen = array_rows.len
rows_are_safe ArrayFree = array_rows.free
rows_are_safe (ExistPack m q s t body) = package_rows.pack m q s t body
rows_are_safe (ExistUnpack' sig m body) = package_rows.unpack sig m body
