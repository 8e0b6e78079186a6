-- What each row makes of a point whose types are well formed has well-formed types, and so have the starts of bodies.
use Rattle.std.proofs.Common.{◌≡◌, [], ◌∷◌, ◌++◌, Option, Some, None, refl, length, replicate}
use Rattle.rw_types.specs.declared.instrs.Instr.{Instr, Nop, Unreachable, Drop, Unit, Print, I32Const, I64Const, Num, Block', Loop', If', Br, BrIf, Return, LocalGet, LocalTake, LocalSet, GlobalGet, GlobalSet, Coderef, Inst, Call, CallIndirect, Qualify, RecFold, RecUnfold, Group, Ungroup, MemPack, MemUnpack', RefSplit, RefJoin, CapSplit, CapJoin, StructMalloc, StructFree, StructGet, StructSet, StructSwap, VariantMalloc, VariantCase', ArrayMalloc, ArrayGet, ArraySet, ArrayLen, ArrayFree, ExistPack, ExistUnpack'}
use Rattle.rw_types.specs.declared.modules.FuncDef.{FuncDef}
use Rattle.rw_types.specs.declared.numbers.NumName.{NumName}
use Rattle.rw_types.specs.declared.numbers.NumName.TheVariants as num
use Rattle.rw_types.specs.declared.types.Ty.{Ty}
use Rattle.rich_types.specs.Scopes.{Scope, scope_of}
use Rattle.rich_types.specs.WellFormed.{IsWellFormed}
use Rattle.rich_rules.specs.Forms.{first_ill_formed}
use Rattle.rich_rules.specs.Modules.{broken_by_type, function_start, function_type_broken}
use Rattle.rich_rules.specs.Numbers.{num_sig}
use Rattle.rich_rules.specs.Points.{Frame, Point}
use Rattle.rich_rules.specs.Table.{lists_of, row}
use Rattle.rich_rules.specs.Takers.{unr_i32, unr_i64, unr_unit}
use Rattle.rich_typing.specs.declared.rules.Rule.{Rule}
use Rattle.rich_rules_laws.proofs.Formed.{all_formed-true}
use Rattle.rich_rules_formed.specs.Formed.{IsFormedPoint, IsFormedOutcome}
use Rattle.rich_rules_formed.specs.Laws.{RowsKeepForms, StartsFormed}
use Rattle.rich_rules_formed.proofs.Lists.{alone, back, front, joined, repeated, reversed}
use Rattle.rich_rules_formed.proofs.Forms.{i32_formed, i64_formed, unit_formed}
use Rattle.rich_rules_formed.proofs.Outcomes.{given_over, in_functions}
use Rattle.rich_rules_formed.proofs.BodyRows.{row_br, row_br_if, row_call, row_call_indirect, row_coderef, row_drop, row_fold, row_from_to, row_global_get, row_global_set, row_group, row_inst, row_local_get, row_local_set, row_local_take, row_mem_pack, row_qualify, row_return, row_unfold, row_ungroup}
use Rattle.rich_rules_formed.proofs.BlockRows.{row_block, row_exist_unpack, row_if, row_loop, row_mem_unpack, row_variant_case}
use Rattle.rich_rules_formed.proofs.CellRows.{row_array_free, row_array_get, row_array_len, row_array_malloc, row_array_set, row_cap_join, row_cap_split, row_exist_pack, row_ref_join, row_ref_split, row_struct_free, row_struct_get, row_struct_malloc, row_struct_set, row_struct_swap, row_variant_malloc}

-- a number instruction gives a number
number_formed : (c : Scope) (n : NumName) → IsWellFormed c (num_sig n).given
number_formed c num.I32Eqz = i32_formed c
number_formed c _ = i32_formed c

module _ (f : Frame) (p : Point) (w : IsFormedPoint p) where
  pub row_formed : (i : Instr) → IsFormedOutcome p (row f p i)
  unfolding row
  row_formed Nop = given_over p w [] p.operands tt w.operands
  row_formed Unreachable = tt
  row_formed Drop = row_drop p w
  row_formed Unit = given_over p w (unr_unit ∷ []) p.operands (alone (scope_of p.binders) unr_unit (unit_formed (scope_of p.binders))) w.operands
  row_formed Print = row_from_to p w (unr_i64 ∷ []) [] tt
  row_formed (I32Const n) = given_over p w (unr_i32 ∷ []) p.operands (alone (scope_of p.binders) unr_i32 (i32_formed (scope_of p.binders))) w.operands
  row_formed (I64Const n) = given_over p w (unr_i64 ∷ []) p.operands (alone (scope_of p.binders) unr_i64 (i64_formed (scope_of p.binders))) w.operands
  row_formed (Num n) = row_from_to p w (num_sig n).taken ((num_sig n).given ∷ []) (alone (scope_of p.binders) (num_sig n).given (number_formed (scope_of p.binders) n))
  row_formed (Block' b m is) = row_block f p w b
  row_formed (Loop' b m is) = row_loop f p w b
  row_formed (If' b m is n js) = row_if f p w b
  row_formed (Br k) = row_br p w k
  row_formed (BrIf k) = row_br_if p w k
  row_formed Return = in_functions p f.owner _ (row_return p w)
  row_formed (LocalGet n) = in_functions p f.owner _ (row_local_get p w n)
  row_formed (LocalTake n) = in_functions p f.owner _ (row_local_take p w n)
  row_formed (LocalSet n) = in_functions p f.owner _ (row_local_set p w f.slots n)
  row_formed (GlobalGet n) = row_global_get p w f n
  row_formed (GlobalSet n) = row_global_set p w f n
  row_formed (Coderef n) = row_coderef p w f n
  row_formed (Inst args) = row_inst p w args
  row_formed (Call n args) = in_functions p f.owner _ (row_call p w f n args)
  row_formed CallIndirect = in_functions p f.owner _ (row_call_indirect p w)
  row_formed Qualify = row_qualify p w
  row_formed (RecFold t) = row_fold p w t
  row_formed RecUnfold = row_unfold p w
  row_formed (Group n q) = row_group p w n q
  row_formed Ungroup = row_ungroup p w
  row_formed (MemPack l t) = row_mem_pack p w l t
  row_formed (MemUnpack' b m is) = row_mem_unpack f p w b
  row_formed RefSplit = row_ref_split p w
  row_formed RefJoin = row_ref_join p w
  row_formed CapSplit = row_cap_split p w
  row_formed CapJoin = row_cap_join p w
  row_formed (StructMalloc m sizes) = row_struct_malloc p w m sizes
  row_formed StructFree = row_struct_free p w
  row_formed (StructGet i) = row_struct_get p w i
  row_formed (StructSet i) = row_struct_set p w i
  row_formed (StructSwap i) = row_struct_swap p w i
  row_formed (VariantMalloc m i ts) = row_variant_malloc p w m i ts
  row_formed (VariantCase' b m cases) = row_variant_case f p w b (length (lists_of cases))
  row_formed (ArrayMalloc m) = row_array_malloc p w m
  row_formed ArrayGet = row_array_get p w
  row_formed ArraySet = row_array_set p w
  row_formed ArrayLen = row_array_len p w
  row_formed ArrayFree = row_array_free p w
  row_formed (ExistPack m q s t body) = row_exist_pack p w m q s t body
  row_formed (ExistUnpack' b m is) = row_exist_unpack f p w b

pub rows_keep_forms : RowsKeepForms
rows_keep_forms f p i w = row_formed f p w i

-- the start of a function's body
no_broken : (r : Rule) (o : Option Ty) → broken_by_type r o ≡ None → o ≡ None
no_broken r None e = refl
no_broken r (Some t) e = cc

pub function_formed : (f : FuncDef) → function_type_broken f.ty ≡ None → IsFormedPoint (function_start f)
function_formed f e =
    let v = all_formed-true (scope_of f.ty.binders) (f.ty.params ++ f.ty.results) (no_broken _ (first_ill_formed (scope_of f.ty.binders) (f.ty.params ++ f.ty.results)) e) in record {
      locals = joined (scope_of f.ty.binders) f.ty.params (replicate (length f.locals) unr_unit) (front (scope_of f.ty.binders) f.ty.params f.ty.results v) (repeated (scope_of f.ty.binders) (length f.locals) unr_unit (unit_formed (scope_of f.ty.binders)));
      labels = tt;
      results = reversed (scope_of f.ty.binders) f.ty.results (back (scope_of f.ty.binders) f.ty.params f.ty.results v);
      operands = tt;
    }

pub starts_formed : StartsFormed
starts_formed = record { function = function_formed; initialiser = record { locals = tt; labels = tt; results = tt; operands = tt } }
