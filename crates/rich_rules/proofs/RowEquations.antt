-- What the table makes of each instruction: an equation for each of its lines.
use Rattle.std.proofs.Common.{◌≡◌, ◌∙◌, ℕ, List, [], ◌∷◌, length, refl, ap}
use Rattle.rw_types.specs.declared.instrs.BlockSig.{BlockSig}
use Rattle.rw_types.specs.declared.instrs.Instr.{Instr, Nop, Unreachable, Drop, Unit, Print, I32Const, I64Const, Num, Br, BrIf, Return, LocalGet, LocalTake, LocalSet, GlobalGet, GlobalSet, Coderef, Inst, Call, CallIndirect, Qualify, RecFold, RecUnfold, Group, Ungroup, MemPack, RefSplit, RefJoin, CapSplit, CapJoin, StructMalloc, StructFree, StructGet, StructSet, StructSwap, VariantMalloc, ArrayMalloc, ArrayGet, ArraySet, ArrayLen, ArrayFree, ExistPack, items-the_row-Instr, items_hidden-the_row-Instr-0}
use Rattle.rw_types.specs.declared.instrs.Instr.TheVariants.{Block, Loop, If, MemUnpack, VariantCase, ExistUnpack}
use Rattle.rw_types.specs.declared.instrs.Instr.TheBlock.{hidden-the_row-Instr-0, hidden-the_row-Instr-VariantCase-1-1-1}
use Rattle.rw_types.specs.declared.numbers.NumName.{NumName}
use Rattle.rw_types.specs.declared.types.Arg.{Arg}
use Rattle.rw_types.specs.declared.types.Mem.{Mem}
use Rattle.rw_types.specs.declared.types.Qual.{Qual}
use Rattle.rw_types.specs.declared.types.Ty.{Ty}
use Rattle.rich_types.specs.Scopes.{scope_of}
use Rattle.rich_rules.specs.Points.{Frame, Point, Ends}
use Rattle.rich_rules.specs.Table.{row, arms_of, lists_of, in_function}
use Rattle.rich_rules.specs.Takers.{unr_unit, unr_i32, unr_i64, gives}
use Rattle.rich_rules.specs.Numbers.{num_sig}
use Rattle.rich_rules.specs.Plain.{from_to, drop_row, qualify_row, fold_row, unfold_row, group_row, ungroup_row}
use Rattle.rich_rules.specs.Variables.{local_get_row, local_take_row, local_set_row, global_get_row, global_set_row}
use Rattle.rich_rules.specs.Branches.{br_row, br_if_row, return_row}
use Rattle.rich_rules.specs.Blocks.{block_row, loop_row, if_row, mem_unpack_row, variant_case_row, exist_unpack_row}
use Rattle.rich_rules.specs.Calls.{coderef_row, inst_row, call_row, call_indirect_row}
use Rattle.rich_rules.specs.Rights.{mem_pack_row, ref_split_row, ref_join_row, cap_split_row, cap_join_row}
use Rattle.rich_rules.specs.Structs.{struct_malloc_row, struct_free_row, struct_get_row, struct_set_row, struct_swap_row}
use Rattle.rich_rules.specs.Cells.{variant_malloc_row, array_malloc_row, array_get_row, array_set_row, array_len_row, array_free_row, exist_pack_row}

-- the lists that code makes of the cases of a variant are read back
lists_of-hidden : (lists : List (List Instr)) → lists_of (hidden-the_row-Instr-VariantCase-1-1-1 lists) ≡ lists
unfolding hidden-the_row-Instr-VariantCase-1-1-1 hidden-the_row-Instr-0 denote.Hole.Carrier.hidden
lists_of-hidden [] = refl
lists_of-hidden (is ∷ rest) = ap (λ (l : List Instr). l ∷ lists_of (hidden-the_row-Instr-VariantCase-1-1-1 rest)) (items_hidden-the_row-Instr-0 is) ∙ ap (λ (l : List (List Instr)). is ∷ l) (lists_of-hidden rest)

-- the lists in each instruction that has lists
pub arms-Block : (b : BlockSig) (is : List Instr) → arms_of (Block b is) ≡ is ∷ []
arms-Block b is = ap (λ (l : List Instr). l ∷ []) (items_hidden-the_row-Instr-0 is)

pub arms-Loop : (b : BlockSig) (is : List Instr) → arms_of (Loop b is) ≡ is ∷ []
arms-Loop b is = ap (λ (l : List Instr). l ∷ []) (items_hidden-the_row-Instr-0 is)

pub arms-If : (b : BlockSig) (is js : List Instr) → arms_of (If b is js) ≡ is ∷ js ∷ []
arms-If b is js = ap (λ (l : List Instr). l ∷ items-the_row-Instr _ (hidden-the_row-Instr-0 js) ∷ []) (items_hidden-the_row-Instr-0 is) ∙ ap (λ (l : List Instr). is ∷ l ∷ []) (items_hidden-the_row-Instr-0 js)

pub arms-MemUnpack : (b : BlockSig) (is : List Instr) → arms_of (MemUnpack b is) ≡ is ∷ []
arms-MemUnpack b is = ap (λ (l : List Instr). l ∷ []) (items_hidden-the_row-Instr-0 is)

pub arms-VariantCase : (b : BlockSig) (lists : List (List Instr)) → arms_of (VariantCase b lists) ≡ lists
arms-VariantCase b lists = lists_of-hidden lists

pub arms-ExistUnpack : (b : BlockSig) (is : List Instr) → arms_of (ExistUnpack b is) ≡ is ∷ []
arms-ExistUnpack b is = ap (λ (l : List Instr). l ∷ []) (items_hidden-the_row-Instr-0 is)

pub ruleset arm_equations = (arms-Block, arms-Loop, arms-If, arms-MemUnpack, arms-VariantCase, arms-ExistUnpack)

module _ (f : Frame) (p : Point) where
  pub row-Nop : row f p Nop ≡ gives [] p.operands
  unfolding row
  row-Nop = refl

  pub row-Unreachable : row f p Unreachable ≡ Ends
  unfolding row
  row-Unreachable = refl

  pub row-Drop : row f p Drop ≡ drop_row (scope_of p.binders) p.operands
  unfolding row
  row-Drop = refl

  pub row-Unit : row f p Unit ≡ gives (unr_unit ∷ []) p.operands
  unfolding row
  row-Unit = refl

  pub row-Print : row f p Print ≡ from_to (unr_i64 ∷ []) [] p.operands
  unfolding row
  row-Print = refl

  pub row-I32Const : (n : ℕ) → row f p (I32Const n) ≡ gives (unr_i32 ∷ []) p.operands
  unfolding row
  row-I32Const n = refl

  pub row-I64Const : (n : ℕ) → row f p (I64Const n) ≡ gives (unr_i64 ∷ []) p.operands
  unfolding row
  row-I64Const n = refl

  pub row-Num : (n : NumName) → row f p (Num n) ≡ from_to (num_sig n).taken ((num_sig n).given ∷ []) p.operands
  unfolding row
  row-Num n = refl

  pub row-Block : (b : BlockSig) (is : List Instr) → row f p (Block b is) ≡ block_row f p b
  unfolding row hidden-the_row-Instr-0 denote.Hole.Carrier.hidden
  row-Block b is = refl

  pub row-Loop : (b : BlockSig) (is : List Instr) → row f p (Loop b is) ≡ loop_row f p b
  unfolding row hidden-the_row-Instr-0 denote.Hole.Carrier.hidden
  row-Loop b is = refl

  pub row-If : (b : BlockSig) (is js : List Instr) → row f p (If b is js) ≡ if_row f p b
  unfolding row hidden-the_row-Instr-0 denote.Hole.Carrier.hidden
  row-If b is js = refl

  pub row-Br : (k : ℕ) → row f p (Br k) ≡ br_row p k
  unfolding row
  row-Br k = refl

  pub row-BrIf : (k : ℕ) → row f p (BrIf k) ≡ br_if_row p k
  unfolding row
  row-BrIf k = refl

  pub row-Return : row f p Return ≡ in_function f.owner (return_row p)
  unfolding row
  row-Return = refl

  pub row-LocalGet : (n : ℕ) → row f p (LocalGet n) ≡ in_function f.owner (local_get_row (scope_of p.binders) p.locals n p.operands)
  unfolding row
  row-LocalGet n = refl

  pub row-LocalTake : (n : ℕ) → row f p (LocalTake n) ≡ in_function f.owner (local_take_row (scope_of p.binders) p.locals n p.operands)
  unfolding row
  row-LocalTake n = refl

  pub row-LocalSet : (n : ℕ) → row f p (LocalSet n) ≡ in_function f.owner (local_set_row (scope_of p.binders) f.slots p.locals n p.operands)
  unfolding row
  row-LocalSet n = refl

  pub row-GlobalGet : (n : ℕ) → row f p (GlobalGet n) ≡ global_get_row f (scope_of p.binders) n p.operands
  unfolding row
  row-GlobalGet n = refl

  pub row-GlobalSet : (n : ℕ) → row f p (GlobalSet n) ≡ global_set_row f n p.operands
  unfolding row
  row-GlobalSet n = refl

  pub row-Coderef : (n : ℕ) → row f p (Coderef n) ≡ coderef_row f (scope_of p.binders) n p.operands
  unfolding row
  row-Coderef n = refl

  pub row-Inst : (args : List Arg) → row f p (Inst args) ≡ inst_row (scope_of p.binders) args p.operands
  unfolding row
  row-Inst args = refl

  pub row-Call : (n : ℕ) (args : List Arg) → row f p (Call n args) ≡ in_function f.owner (call_row f (scope_of p.binders) n args p.operands)
  unfolding row
  row-Call n args = refl

  pub row-CallIndirect : row f p CallIndirect ≡ in_function f.owner (call_indirect_row p.operands)
  unfolding row
  row-CallIndirect = refl

  pub row-Qualify : row f p Qualify ≡ qualify_row p.operands
  unfolding row
  row-Qualify = refl

  pub row-RecFold : (t : Ty) → row f p (RecFold t) ≡ fold_row (scope_of p.binders) t p.operands
  unfolding row
  row-RecFold t = refl

  pub row-RecUnfold : row f p RecUnfold ≡ unfold_row p.operands
  unfolding row
  row-RecUnfold = refl

  pub row-Group : (n : ℕ) (q : Qual) → row f p (Group n q) ≡ group_row (scope_of p.binders) n q p.operands
  unfolding row
  row-Group n q = refl

  pub row-Ungroup : row f p Ungroup ≡ ungroup_row p.operands
  unfolding row
  row-Ungroup = refl

  pub row-MemPack : (l : ℕ) (t : Ty) → row f p (MemPack l t) ≡ mem_pack_row (scope_of p.binders) l t p.operands
  unfolding row
  row-MemPack l t = refl

  pub row-MemUnpack : (b : BlockSig) (is : List Instr) → row f p (MemUnpack b is) ≡ mem_unpack_row f p b
  unfolding row hidden-the_row-Instr-0 denote.Hole.Carrier.hidden
  row-MemUnpack b is = refl

  pub row-RefSplit : row f p RefSplit ≡ ref_split_row (scope_of p.binders) p.operands
  unfolding row
  row-RefSplit = refl

  pub row-RefJoin : row f p RefJoin ≡ ref_join_row p.operands
  unfolding row
  row-RefJoin = refl

  pub row-CapSplit : row f p CapSplit ≡ cap_split_row p.operands
  unfolding row
  row-CapSplit = refl

  pub row-CapJoin : row f p CapJoin ≡ cap_join_row p.operands
  unfolding row
  row-CapJoin = refl

  pub row-StructMalloc : (m : Mem) (sizes : List ℕ) → row f p (StructMalloc m sizes) ≡ struct_malloc_row (scope_of p.binders) m sizes p.operands
  unfolding row
  row-StructMalloc m sizes = refl

  pub row-StructFree : row f p StructFree ≡ struct_free_row (scope_of p.binders) p.operands
  unfolding row
  row-StructFree = refl

  pub row-StructGet : (i : ℕ) → row f p (StructGet i) ≡ struct_get_row (scope_of p.binders) i p.operands
  unfolding row
  row-StructGet i = refl

  pub row-StructSet : (i : ℕ) → row f p (StructSet i) ≡ struct_set_row (scope_of p.binders) i p.operands
  unfolding row
  row-StructSet i = refl

  pub row-StructSwap : (i : ℕ) → row f p (StructSwap i) ≡ struct_swap_row (scope_of p.binders) i p.operands
  unfolding row
  row-StructSwap i = refl

  pub row-VariantMalloc : (m : Mem) (i : ℕ) (ts : List Ty) → row f p (VariantMalloc m i ts) ≡ variant_malloc_row (scope_of p.binders) m i ts p.operands
  unfolding row
  row-VariantMalloc m i ts = refl

  pub row-ArrayMalloc : (m : Mem) → row f p (ArrayMalloc m) ≡ array_malloc_row (scope_of p.binders) m p.operands
  unfolding row
  row-ArrayMalloc m = refl

  pub row-ArrayGet : row f p ArrayGet ≡ array_get_row (scope_of p.binders) p.operands
  unfolding row
  row-ArrayGet = refl

  pub row-ArraySet : row f p ArraySet ≡ array_set_row (scope_of p.binders) p.operands
  unfolding row
  row-ArraySet = refl

  pub row-ArrayLen : row f p ArrayLen ≡ array_len_row (scope_of p.binders) p.operands
  unfolding row
  row-ArrayLen = refl

  pub row-ArrayFree : row f p ArrayFree ≡ array_free_row (scope_of p.binders) p.operands
  unfolding row
  row-ArrayFree = refl

  pub row-ExistPack : (m : Mem) (q : Qual) (s : ℕ) (t body : Ty) → row f p (ExistPack m q s t body) ≡ exist_pack_row (scope_of p.binders) m q s t body p.operands
  unfolding row
  row-ExistPack m q s t body = refl

  pub row-ExistUnpack : (b : BlockSig) (is : List Instr) → row f p (ExistUnpack b is) ≡ exist_unpack_row f p b
  unfolding row hidden-the_row-Instr-0 denote.Hole.Carrier.hidden
  row-ExistUnpack b is = refl

  pub row-VariantCase : (b : BlockSig) (lists : List (List Instr)) → row f p (VariantCase b lists) ≡ variant_case_row f p b (length lists)
  unfolding row
  row-VariantCase b lists = ap (λ (l : List (List Instr)). variant_case_row f p b (length l)) (lists_of-hidden lists)

pub ruleset row_equations = (row-Nop, row-Unreachable, row-Drop, row-Unit, row-Print, row-I32Const, row-I64Const, row-Num, row-Block, row-Loop, row-If, row-Br, row-BrIf, row-Return, row-LocalGet, row-LocalTake, row-LocalSet, row-GlobalGet, row-GlobalSet, row-Coderef, row-Inst, row-Call, row-CallIndirect, row-Qualify, row-RecFold, row-RecUnfold, row-Group, row-Ungroup, row-MemPack, row-MemUnpack, row-RefSplit, row-RefJoin, row-CapSplit, row-CapJoin, row-StructMalloc, row-StructFree, row-StructGet, row-StructSet, row-StructSwap, row-VariantMalloc, row-ArrayMalloc, row-ArrayGet, row-ArraySet, row-ArrayLen, row-ArrayFree, row-ExistPack, row-ExistUnpack, row-VariantCase)
