-- No other instruction is on cells.
use Rattle.cap_rules.proofs.Cells.{none_other}
use Rattle.cap_rules.proofs.dispatch.dispatch.Goals as goal

pub unreachable-requires : goal.unreachable-requires
unreachable-requires c = none_other c.args.i.now c.requires (record {
  ref_split = c.in_default.not-RefSplit;
  ref_join = c.in_default.not-RefJoin;
  cap_split = c.in_default.not-CapSplit;
  cap_join = c.in_default.not-CapJoin;
  struct_malloc = c.in_default.not-StructMalloc;
  struct_free = c.in_default.not-StructFree;
  struct_get = c.in_default.not-StructGet;
  struct_set = c.in_default.not-StructSet;
  struct_swap = c.in_default.not-StructSwap;
  variant_malloc = c.in_default.not-VariantMalloc;
  array_malloc = c.in_default.not-ArrayMalloc;
  array_get = c.in_default.not-ArrayGet;
  array_set = c.in_default.not-ArraySet;
  array_len = c.in_default.not-ArrayLen;
  array_free = c.in_default.not-ArrayFree;
  exist_pack = c.in_default.not-ExistPack;
})
