-- The table of the rules of bodies: what each instruction makes of a point, how many operands it takes, the lists in it, and
-- what the point before it tells. This project's own.
use Rattle.std.specs.Prelude.{ℕ, ◌+◌, List, [], ◌∷◌, Option, Some, None, length, take, drop, reverse, slice_get}
use Rattle.rw_types.specs.declared.instrs.Instr.{Instr, Nop, Unreachable, Drop, Unit, Print, I32Const, I64Const, Num, Block', Loop', If', Br, BrIf, Return, LocalGet, LocalTake, LocalSet, GlobalGet, GlobalSet, Coderef, Inst, Call, CallIndirect, Qualify, RecFold, RecUnfold, Group, Ungroup, MemPack, MemUnpack', RefSplit, RefJoin, CapSplit, CapJoin, StructMalloc, StructFree, StructGet, StructSet, StructSwap, VariantMalloc, VariantCase', ArrayMalloc, ArrayGet, ArraySet, ArrayLen, ArrayFree, ExistPack, ExistUnpack', items-the_row-Instr, Row_of-Instr-VariantCase-1-1, end_of-Instr-VariantCase-1-1, more_of-Instr-VariantCase-1-1}
use Rattle.rw_types.specs.declared.types.FunType.{FunType}
use Rattle.rw_types.specs.declared.types.Pre.{Code', end_of-FunType, more_of-FunType}
use Rattle.rw_types.specs.declared.types.Ty.{Ty, Of, items-the_row-Ty}
use Rattle.rich_types.specs.Scopes.{Scope, scope_of}
use Rattle.rich_types.specs.Sizes.{list_size}
use Rattle.rich_typing.specs.declared.notes.Note.{Note}
use Rattle.rich_typing.specs.declared.rules.Rule.TheVariants as rule
use Rattle.rich_rules.specs.Points.{Frame, Owner, OfFunction, OfGlobal, Label, Point, Outcome, Ends, Breaks, Broke}
use Rattle.rich_rules.specs.Takers.{unr_unit, unr_i32, unr_i64, gives}
use Rattle.rich_rules.specs.Numbers.{num_sig}
use Rattle.rich_rules.specs.Plain.{from_to, drop_row, qualify_row, fold_row, unfold_row, group_row, ungroup_row}
use Rattle.rich_rules.specs.Variables.{local_get_row, local_take_row, local_set_row, global_get_row, global_set_row}
use Rattle.rich_rules.specs.Branches.{br_row, br_if_row, return_row}
use Rattle.rich_rules.specs.Blocks.{block_row, loop_row, if_row, mem_unpack_row, variant_case_row, exist_unpack_row}
use Rattle.rich_rules.specs.Calls.{coderef_row, inst_row, call_row, call_indirect_row}
use Rattle.rich_rules.specs.Rights.{mem_pack_row, ref_split_row, ref_join_row, cap_split_row, cap_join_row}
use Rattle.rich_rules.specs.Structs.{struct_malloc_row, struct_free_row, struct_get_row, struct_set_row, struct_swap_row}
use Rattle.rich_rules.specs.Cells.{variant_malloc_row, array_malloc_row, array_get_row, array_set_row, array_len_row, array_free_row, exist_pack_row}

-- the lists of the cases of a variant
abbrev pub lists_of : {n : _} → Row_of-Instr-VariantCase-1-1 n → List (List Instr)
lists_of end_of-Instr-VariantCase-1-1 = []
lists_of (more_of-Instr-VariantCase-1-1 m is rest) = items-the_row-Instr _ is ∷ lists_of rest

-- the lists in an instruction, in the order of the text
abbrev pub arms_of : Instr → List (List Instr)
arms_of (Block' b m is) = items-the_row-Instr _ is ∷ []
arms_of (Loop' b m is) = items-the_row-Instr _ is ∷ []
arms_of (If' b m is n js) = items-the_row-Instr _ is ∷ items-the_row-Instr _ js ∷ []
arms_of (MemUnpack' b m is) = items-the_row-Instr _ is ∷ []
arms_of (VariantCase' b m rows) = lists_of rows
arms_of (ExistUnpack' b m is) = items-the_row-Instr _ is ∷ []
arms_of _ = []

-- what may stand in a function's body alone
abbrev pub in_function : Owner → Outcome → Outcome
in_function OfFunction rest = rest
in_function (OfGlobal own) rest = Breaks (Broke rule.Initialiser None None)

-- the table
unfoldable pub row : Frame → Point → Instr → Outcome
row f p Nop = gives [] p.operands
row f p Unreachable = Ends
row f p Drop = drop_row (scope_of p.binders) p.operands
row f p Unit = gives (unr_unit ∷ []) p.operands
row f p Print = from_to (unr_i64 ∷ []) [] p.operands
row f p (I32Const n) = gives (unr_i32 ∷ []) p.operands
row f p (I64Const n) = gives (unr_i64 ∷ []) p.operands
row f p (Num n) = from_to (num_sig n).taken ((num_sig n).given ∷ []) p.operands
row f p (Block' b m is) = block_row f p b
row f p (Loop' b m is) = loop_row f p b
row f p (If' b m is n js) = if_row f p b
row f p (Br k) = br_row p k
row f p (BrIf k) = br_if_row p k
row f p Return = in_function f.owner (return_row p)
row f p (LocalGet n) = in_function f.owner (local_get_row (scope_of p.binders) p.locals n p.operands)
row f p (LocalTake n) = in_function f.owner (local_take_row (scope_of p.binders) p.locals n p.operands)
row f p (LocalSet n) = in_function f.owner (local_set_row (scope_of p.binders) f.slots p.locals n p.operands)
row f p (GlobalGet n) = global_get_row f (scope_of p.binders) n p.operands
row f p (GlobalSet n) = global_set_row f n p.operands
row f p (Coderef n) = coderef_row f (scope_of p.binders) n p.operands
row f p (Inst args) = inst_row (scope_of p.binders) args p.operands
row f p (Call n args) = in_function f.owner (call_row f (scope_of p.binders) n args p.operands)
row f p CallIndirect = in_function f.owner (call_indirect_row p.operands)
row f p Qualify = qualify_row p.operands
row f p (RecFold t) = fold_row (scope_of p.binders) t p.operands
row f p RecUnfold = unfold_row p.operands
row f p (Group n q) = group_row (scope_of p.binders) n q p.operands
row f p Ungroup = ungroup_row p.operands
row f p (MemPack l t) = mem_pack_row (scope_of p.binders) l t p.operands
row f p (MemUnpack' b m is) = mem_unpack_row f p b
row f p RefSplit = ref_split_row (scope_of p.binders) p.operands
row f p RefJoin = ref_join_row p.operands
row f p CapSplit = cap_split_row p.operands
row f p CapJoin = cap_join_row p.operands
row f p (StructMalloc m sizes) = struct_malloc_row (scope_of p.binders) m sizes p.operands
row f p StructFree = struct_free_row (scope_of p.binders) p.operands
row f p (StructGet i) = struct_get_row (scope_of p.binders) i p.operands
row f p (StructSet i) = struct_set_row (scope_of p.binders) i p.operands
row f p (StructSwap i) = struct_swap_row (scope_of p.binders) i p.operands
row f p (VariantMalloc m i ts) = variant_malloc_row (scope_of p.binders) m i ts p.operands
row f p (VariantCase' b m rows) = variant_case_row f p b (length (lists_of rows))
row f p (ArrayMalloc m) = array_malloc_row (scope_of p.binders) m p.operands
row f p ArrayGet = array_get_row (scope_of p.binders) p.operands
row f p ArraySet = array_set_row (scope_of p.binders) p.operands
row f p ArrayLen = array_len_row (scope_of p.binders) p.operands
row f p ArrayFree = array_free_row (scope_of p.binders) p.operands
row f p (ExistPack m q s t body) = exist_pack_row (scope_of p.binders) m q s t body p.operands
row f p (ExistUnpack' b m is) = exist_unpack_row f p b

-- how many operands a branch to a label carries; none where there is no such label
abbrev pub carried : Option Label → ℕ
carried (Some l) = length l.types
carried None = 0

-- how many operands a call takes; none where there is no such function
abbrev pub param_count : Option FunType → ℕ
param_count (Some g) = length g.params
param_count None = 0

-- how many operands a call of the function on top of them takes
abbrev pub indirect_count : List Ty → ℕ
indirect_count (Of q (Code' a (more_of-FunType bs m ps n rs end_of-FunType)) ∷ ts) = length (items-the_row-Ty _ ps) + 1
indirect_count _ = 1

-- how many operands an instruction takes
unfoldable pub takes : Frame → Point → Instr → ℕ
takes f p Drop = 1
takes f p Print = 1
takes f p (Num n) = length (num_sig n).taken
takes f p (Block' b m is) = length b.params
takes f p (Loop' b m is) = length b.params
takes f p (If' b m is n js) = length b.params + 1
takes f p (Br k) = carried (slice_get p.labels k)
takes f p (BrIf k) = carried (slice_get p.labels k) + 1
takes f p Return = length p.results
takes f p (LocalSet n) = 1
takes f p (GlobalSet n) = 1
takes f p (Inst args) = 1
takes f p (Call n args) = param_count (slice_get f.functions n)
takes f p CallIndirect = indirect_count p.operands
takes f p Qualify = 1
takes f p (RecFold t) = 1
takes f p RecUnfold = 1
takes f p (Group n q) = n
takes f p Ungroup = 1
takes f p (MemPack l t) = 1
takes f p (MemUnpack' b m is) = length b.params + 1
takes f p RefSplit = 1
takes f p RefJoin = 2
takes f p CapSplit = 1
takes f p CapJoin = 2
takes f p (StructMalloc m sizes) = length sizes
takes f p StructFree = 1
takes f p (StructGet i) = 1
takes f p (StructSet i) = 2
takes f p (StructSwap i) = 2
takes f p (VariantMalloc m i ts) = 1
takes f p (VariantCase' b m rows) = length b.params + 1
takes f p (ArrayMalloc m) = 2
takes f p ArrayGet = 2
takes f p ArraySet = 3
takes f p ArrayLen = 1
takes f p ArrayFree = 1
takes f p (ExistPack m q s t body) = 1
takes f p (ExistUnpack' b m is) = length b.params + 1
takes f p _ = 0

-- the words of the operands in the rests of labels
abbrev pub rest_size : Scope → List Label → ℕ
rest_size c [] = 0
rest_size c (l ∷ ls) = list_size c l.rest + rest_size c ls

-- the type of the local that an instruction names
abbrev pub local_of : Instr → List Ty → Option Ty
local_of (LocalGet n) locals = slice_get locals n
local_of (LocalTake n) locals = slice_get locals n
local_of (LocalSet n) locals = slice_get locals n
local_of _ locals = None

-- the note of a point before an instruction that takes so many operands
abbrev pub note_taking : Point → Instr → ℕ → Note
note_taking p i n = record {
  binders = p.binders;
  beneath = list_size (scope_of p.binders) (drop n p.operands) + rest_size (scope_of p.binders) p.labels;
  taken = reverse (take n p.operands);
  local = local_of i p.locals;
}

-- what the point before an instruction tells
abbrev pub note_of : Frame → Point → Instr → Note
note_of f p i = note_taking p i (takes f p i)
