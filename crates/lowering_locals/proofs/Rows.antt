-- Each row keeps locals within their slots: most change none.
use Rattle.std.proofs.Common.{◌≡◌, ℕ, List, [], ◌∷◌, ◌++◌, None, length, refl}
use Rattle.std.proofs.Math.Path.{subst⁻¹}
use Rattle.rw_types.specs.declared.instrs.BlockSig.{BlockSig}
use Rattle.rw_types.specs.declared.instrs.Instr.{Instr, Nop, Unreachable, Drop, Unit, Print, I32Const, I64Const, Num, Block', Loop', If', Br, BrIf, Return, LocalGet, LocalTake, LocalSet, GlobalGet, GlobalSet, Coderef, Inst, Call, CallIndirect, Qualify, RecFold, RecUnfold, Group, Ungroup, MemPack, MemUnpack', RefSplit, RefJoin, CapSplit, CapJoin, StructMalloc, StructFree, StructGet, StructSet, StructSwap, VariantMalloc, VariantCase', ArrayMalloc, ArrayGet, ArraySet, ArrayLen, ArrayFree, ExistPack, ExistUnpack'}
use Rattle.rw_types.specs.declared.types.Binder.{Binder}
use Rattle.rw_types.specs.declared.types.Binder.TheVariants.{Kind, Loc}
use Rattle.rw_types.specs.declared.types.Ty.{Ty}
use Rattle.rich_types.specs.Scopes.{Scope, no_scope, scope_of}
use Rattle.rich_rules.specs.Blocks.{each_alone, end_label, entry, entry_below, local_types, start_label}
use Rattle.rich_rules.specs.Numbers.{num_sig}
use Rattle.rich_rules.specs.Points.{Breaks, Ends, Enters, Frame, Gives, Label, OfFunction, OfGlobal, Outcome, Owner, Point}
use Rattle.rich_rules.specs.Raised.{below_one, raise_all}
use Rattle.rich_rules.specs.Table.{in_function, lists_of, row}
use Rattle.rich_rules.specs.Takers.{unr_i64}
use Rattle.rich_rules.specs.Variables.{local_get_row, local_set_row, local_take_row}
use Rattle.rich_rules_laws.proofs.Formed.{all_formed-true}
use Rattle.rich_rules_inversions.specs.Bodies.{IsSigned}
use Rattle.rich_rules_inversions.specs.Cells.{Goes}
use Rattle.rich_rules_inversions.proofs.Bodies as bodies
use Rattle.rich_rules_inversions.proofs.Cells as cells
use Rattle.rich_rules_formed.specs.Formed.{AreFormed, IsFormedPoint}
use Rattle.rich_rules_formed.proofs.Lists.{back, within_last}
use Rattle.rich_rules_formed.proofs.BodyRows.{top}
use Rattle.lowering_locals.specs.Fitting.{AreFitting, LocalsFit, OutcomeFits}
use Rattle.lowering_locals.specs.Laws.{RowsFit}
use Rattle.lowering_locals.proofs.Slots.{changed_fit, raised_fit, set_fits, taken_fits}

module _ (f : Frame) (p : Point) (w : IsFormedPoint p) (h : LocalsFit f.slots p) where
  abbrev Fit : Outcome → Type 0
  Fit o = OutcomeFits f.slots p o

  -- of an outcome that breaks a rule nothing is asked
  settled : (o : Outcome) → (Goes o → Fit o) → Fit o
  settled (Gives operands change) g = g tt
  settled Ends g = g tt
  settled (Enters e) g = g tt
  settled (Breaks b) g = tt

  in_functions : (x : Owner) (o : Outcome) → Fit o → Fit (in_function x o)
  in_functions OfFunction o g = g
  in_functions (OfGlobal n) o g = tt

  -- no local is changed
  same : (o : Outcome) (operands : List Ty) → o ≡ Gives operands None → Fit o
  same o operands e = subst⁻¹ Fit e h

  ended : (o : Outcome) → o ≡ Ends → Fit o
  ended o e = subst⁻¹ Fit e tt

  -- lists that are entered
  signed_formed : (b : BlockSig) → IsSigned f p b → AreFormed (scope_of p.binders) (local_types b.locals)
  signed_formed b s = back (scope_of p.binders) (b.params ++ b.results) (local_types b.locals) (all_formed-true (scope_of p.binders) (b.params ++ b.results ++ local_types b.locals) s.formed)

  entered : (o : Outcome) (b : BlockSig) (l : Label) (beneath : List Ty) (payloads : List (List Ty)) → o ≡ Enters (entry p b l beneath payloads) → IsSigned f p b → Fit o
  entered o b l beneath payloads e s = subst⁻¹ Fit e (λ j. h, changed_fit (scope_of p.binders) f.slots b.locals p.locals (signed_formed b s) s.fit h)

  entered_below : (o : Outcome) (b : BlockSig) (binder : Binder) (l : Label) (beneath : List Ty) (t : Ty) → o ≡ Enters (entry_below p b binder l beneath t) → IsSigned f p b → Fit o
  entered_below o b binder l beneath t e s =
      let inner : AreFitting (scope_of (p.binders ++ binder ∷ [])) f.slots (raise_all (below_one binder) p.locals) =
      subst⁻¹ (λ (c : Scope). AreFitting c f.slots (raise_all (below_one binder) p.locals)) (within_last p.binders binder no_scope) (raised_fit (scope_of p.binders) binder f.slots p.locals w.locals h) in
      subst⁻¹ Fit e (λ j. inner, changed_fit (scope_of p.binders) f.slots b.locals p.locals (signed_formed b s) s.fit h)

  of_local_get : (n : ℕ) → Fit (local_get_row (scope_of p.binders) p.locals n p.operands)
  of_local_get n = settled _ (λ go. (let x = bodies.rows.local_get (scope_of p.binders) p.locals n p.operands _ refl go in same _ _ x.given))

  of_local_take : (n : ℕ) → Fit (local_take_row (scope_of p.binders) p.locals n p.operands)
  of_local_take n = settled _ (λ go. (let x = bodies.rows.local_take (scope_of p.binders) p.locals n p.operands _ refl go in subst⁻¹ Fit x.given (taken_fits (scope_of p.binders) f.slots p.locals n h)))

  of_local_set : (n : ℕ) → Fit (local_set_row (scope_of p.binders) f.slots p.locals n p.operands)
  of_local_set n = settled _ (λ go. (
      let x = bodies.rows.local_set (scope_of p.binders) f.slots p.locals n p.operands _ refl go in
      subst⁻¹ Fit x.given (set_fits (scope_of p.binders) f.slots p.locals n x.value h (top p w x.value x.beneath x.taken).0 x.fit)))

  pub row_fits : (i : Instr) → Fit (row f p i)
  unfolding row
  row_fits Nop = h
  row_fits Unreachable = tt
  row_fits Drop = settled _ (λ go. (let x = bodies.rows.drop (scope_of p.binders) p.operands _ refl go in same _ _ x.given))
  row_fits Unit = h
  row_fits Print = settled _ (λ go. (let x = bodies.rows.from_to (unr_i64 ∷ []) [] p.operands _ refl go in same _ _ x.result))
  row_fits (I32Const n) = h
  row_fits (I64Const n) = h
  row_fits (Num n) = settled _ (λ go. (let x = bodies.rows.from_to (num_sig n).taken ((num_sig n).given ∷ []) p.operands _ refl go in same _ _ x.result))
  row_fits (Block' b m is) = settled _ (λ go. (let x = bodies.rows.block f p b _ refl go in entered _ b (end_label p b x.beneath) x.beneath [] x.given x.is_signed))
  row_fits (Loop' b m is) = settled _ (λ go. (let x = bodies.rows.loops f p b _ refl go in entered _ b (start_label p b x.beneath) x.beneath [] x.given x.is_signed))
  row_fits (If' b m is n js) = settled _ (λ go. (let x = bodies.rows.arms f p b _ refl go in entered _ b (end_label p b x.beneath) x.beneath [] x.given x.is_signed))
  row_fits (Br k) = settled _ (λ go. ended _ (bodies.rows.br p k _ refl go).given)
  row_fits (BrIf k) = settled _ (λ go. (let x = bodies.rows.br_if p k _ refl go in same _ _ x.given))
  row_fits Return = in_functions f.owner _ (settled _ (λ go. ended _ (bodies.rows.returns p _ refl go).given))
  row_fits (LocalGet n) = in_functions f.owner _ (of_local_get n)
  row_fits (LocalTake n) = in_functions f.owner _ (of_local_take n)
  row_fits (LocalSet n) = in_functions f.owner _ (of_local_set n)
  row_fits (GlobalGet n) = settled _ (λ go. (let x = bodies.rows.global_get f (scope_of p.binders) n p.operands _ refl go in same _ _ x.given))
  row_fits (GlobalSet n) = settled _ (λ go. (let x = bodies.rows.global_set f n p.operands _ refl go in same _ _ x.given))
  row_fits (Coderef n) = settled _ (λ go. (let x = bodies.rows.coderef f (scope_of p.binders) n p.operands _ refl go in same _ _ x.given))
  row_fits (Inst args) = settled _ (λ go. (let x = bodies.rows.inst (scope_of p.binders) args p.operands _ refl go in same _ _ x.given))
  row_fits (Call n args) = in_functions f.owner _ (settled _ (λ go. (let x = bodies.rows.call f (scope_of p.binders) n args p.operands _ refl go in same _ _ x.given)))
  row_fits CallIndirect = in_functions f.owner _ (settled _ (λ go. (let x = bodies.rows.call_indirect p.operands _ refl go in same _ _ x.given)))
  row_fits Qualify = settled _ (λ go. (let x = bodies.rows.qualify p.operands _ refl go in same _ _ x.given))
  row_fits (RecFold t) = settled _ (λ go. (let x = bodies.rows.rec_fold (scope_of p.binders) t p.operands _ refl go in same _ _ x.given))
  row_fits RecUnfold = settled _ (λ go. (let x = bodies.rows.rec_unfold p.operands _ refl go in same _ _ x.given))
  row_fits (Group n q) = settled _ (λ go. (let x = bodies.rows.group (scope_of p.binders) n q p.operands _ refl go in same _ _ x.given))
  row_fits Ungroup = settled _ (λ go. (let x = bodies.rows.ungroup p.operands _ refl go in same _ _ x.given))
  row_fits (MemPack l t) = settled _ (λ go. (let x = bodies.rows.mem_pack (scope_of p.binders) l t p.operands _ refl go in same _ _ x.given))
  row_fits (MemUnpack' b m is) = settled _ (λ go. (let x = bodies.rows.mem_unpack f p b _ refl go in entered_below _ b (Loc x.memory) (end_label p b x.beneath) x.beneath x.body x.given x.is_signed))
  row_fits RefSplit = settled _ (λ go. (let x = cells.rows.ref_split (scope_of p.binders) p.operands _ refl go in same _ _ x.given))
  row_fits RefJoin = settled _ (λ go. (let x = cells.rows.ref_join p.operands _ refl go in same _ _ x.given))
  row_fits CapSplit = settled _ (λ go. (let x = cells.rows.cap_split p.operands _ refl go in same _ _ x.given))
  row_fits CapJoin = settled _ (λ go. (let x = cells.rows.cap_join p.operands _ refl go in same _ _ x.given))
  row_fits (StructMalloc m sizes) = settled _ (λ go. (let x = cells.rows.struct_malloc (scope_of p.binders) m sizes p.operands _ refl go in same _ _ x.given))
  row_fits StructFree = settled _ (λ go. (let x = cells.rows.struct_free (scope_of p.binders) p.operands _ refl go in same _ _ x.given))
  row_fits (StructGet i) = settled _ (λ go. (let x = cells.rows.struct_get (scope_of p.binders) i p.operands _ refl go in same _ _ x.given))
  row_fits (StructSet i) = settled _ (λ go. (let x = cells.rows.struct_set (scope_of p.binders) i p.operands _ refl go in same _ _ x.given))
  row_fits (StructSwap i) = settled _ (λ go. (let x = cells.rows.struct_swap (scope_of p.binders) i p.operands _ refl go in same _ _ x.given))
  row_fits (VariantMalloc m i ts) = settled _ (λ go. (let x = cells.rows.variant_malloc (scope_of p.binders) m i ts p.operands _ refl go in same _ _ x.given))
  row_fits (VariantCase' b m cases) = settled _ (λ go. (let x = bodies.rows.variant_case f p b (length (lists_of cases)) _ refl go in entered _ b (end_label p b x.beneath) x.beneath (each_alone x.cases) x.given x.is_signed))
  row_fits (ArrayMalloc m) = settled _ (λ go. (let x = cells.rows.array_malloc (scope_of p.binders) m p.operands _ refl go in same _ _ x.given))
  row_fits ArrayGet = settled _ (λ go. (let x = cells.rows.array_get (scope_of p.binders) p.operands _ refl go in same _ _ x.given))
  row_fits ArraySet = settled _ (λ go. (let x = cells.rows.array_set (scope_of p.binders) p.operands _ refl go in same _ _ x.given))
  row_fits ArrayLen = settled _ (λ go. (let x = cells.rows.array_len (scope_of p.binders) p.operands _ refl go in same _ _ x.given))
  row_fits ArrayFree = settled _ (λ go. (let x = cells.rows.array_free (scope_of p.binders) p.operands _ refl go in same _ _ x.given))
  row_fits (ExistPack m q s t body) = settled _ (λ go. (let x = cells.rows.exist_pack (scope_of p.binders) m q s t body p.operands _ refl go in same _ _ x.given))
  row_fits (ExistUnpack' b m is) = settled _ (λ go. (let x = bodies.rows.exist_unpack f p b _ refl go in entered_below _ b (Kind x.qual x.size) (end_label p b x.beneath) x.beneath x.body x.given x.is_signed))

pub rows_fit : RowsFit
rows_fit f p i w h = row_fits f p w h i
