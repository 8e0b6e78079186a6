-- What rows that enter lists make of a point whose types are well formed.
use Rattle.std.proofs.Common.{◌≡◌, ℕ, List, [], ◌∷◌, ◌++◌, refl, reverse}
use Rattle.std.proofs.Math.Path.{subst⁻¹}
use Rattle.rw_types.specs.declared.instrs.BlockSig.{BlockSig}
use Rattle.rw_types.specs.declared.types.Binder.{Binder}
use Rattle.rw_types.specs.declared.types.Binder.TheVariants.{Kind, Loc}
use Rattle.rw_types.specs.declared.types.Heap.TheVariants.{Exist, Variant}
use Rattle.rw_types.specs.declared.types.Pre.TheVariants.{Hidden}
use Rattle.rw_types.specs.declared.types.Ty.{Of, Ty}
use Rattle.rich_types.specs.Scopes.{Scope, no_scope, scope_of, within}
use Rattle.rich_types.specs.WellFormed.{IsWellFormed}
use Rattle.rich_rules.specs.Blocks.{block_row, each_alone, end_label, entry, entry_below, exist_unpack_row, if_row, local_types, loop_row, mem_unpack_row, start_label, variant_case_row}
use Rattle.rich_rules.specs.Points.{Enters, Frame, Label, Outcome, Point, types_at}
use Rattle.rich_rules.specs.Raised.{below_one, raise_all}
use Rattle.rich_rules.specs.Takers.{unr_i32}
use Rattle.rich_rules_laws.proofs.Formed.{all_formed-true}
use Rattle.rich_rules_inversions.specs.Bodies.{IsSigned}
use Rattle.rich_rules_inversions.proofs.Bodies.{rows}
use Rattle.rich_rules_formed.specs.Formed.{AreFormed, AreFormedLabels, IsFormedLabel, IsFormedPoint, IsFormedOutcome}
use Rattle.rich_rules_formed.proofs.Lists.{back, changed, front, joined, labels_raised, more, no_payload, payloads, raised, reversed, within_last}
use Rattle.rich_rules_formed.proofs.Forms.{cases_formed, hidden_body, package_body, reference_parts}
use Rattle.rich_rules_formed.proofs.Outcomes.{settled}
use Rattle.rich_rules_formed.proofs.BodyRows.{top, under}

-- a point under binders that bring in this scope
under_scope : (q : Point) (e : Scope) → scope_of q.binders ≡ e → AreFormed e q.locals → AreFormedLabels e q.labels → AreFormed e q.results → AreFormed e q.operands → IsFormedPoint q
under_scope q e is locals labels results operands = record {
  locals = subst⁻¹ (λ c. AreFormed c q.locals) is locals;
  labels = subst⁻¹ (λ c. AreFormedLabels c q.labels) is labels;
  results = subst⁻¹ (λ c. AreFormed c q.results) is results;
  operands = subst⁻¹ (λ c. AreFormed c q.operands) is operands;
}

module _ (f : Frame) (p : Point) (w : IsFormedPoint p) where
  -- the types of a signature
  params_formed : (b : BlockSig) → IsSigned f p b → AreFormed (scope_of p.binders) (reverse b.params)
  params_formed b s = reversed (scope_of p.binders) b.params (front (scope_of p.binders) b.params b.results (front (scope_of p.binders) (b.params ++ b.results) (local_types b.locals) (all_formed-true (scope_of p.binders) (b.params ++ b.results ++ local_types b.locals) s.formed)))

  results_formed : (b : BlockSig) → IsSigned f p b → AreFormed (scope_of p.binders) (reverse b.results)
  results_formed b s = reversed (scope_of p.binders) b.results (back (scope_of p.binders) b.params b.results (front (scope_of p.binders) (b.params ++ b.results) (local_types b.locals) (all_formed-true (scope_of p.binders) (b.params ++ b.results ++ local_types b.locals) s.formed)))

  locals_formed : (b : BlockSig) → IsSigned f p b → AreFormed (scope_of p.binders) (local_types b.locals)
  locals_formed b s = back (scope_of p.binders) (b.params ++ b.results) (local_types b.locals) (all_formed-true (scope_of p.binders) (b.params ++ b.results ++ local_types b.locals) s.formed)

  end_formed : (b : BlockSig) (beneath : List Ty) → IsSigned f p b → AreFormed (scope_of p.binders) beneath → IsFormedLabel (scope_of p.binders) (end_label p b beneath)
  end_formed b beneath s v = record { types = results_formed b s; locals = changed (scope_of p.binders) b.locals p.locals (locals_formed b s) w.locals; rest = v }

  start_formed : (b : BlockSig) (beneath : List Ty) → IsSigned f p b → AreFormed (scope_of p.binders) beneath → IsFormedLabel (scope_of p.binders) (start_label p b beneath)
  start_formed b beneath s v = record { types = params_formed b s; locals = w.locals; rest = v }

  -- lists that are entered under a label
  entry_formed : (o : Outcome) (b : BlockSig) (l : Label) (beneath : List Ty) (ts : List (List Ty)) → o ≡ Enters (entry p b l beneath ts) → IsSigned f p b → IsFormedLabel (scope_of p.binders) l → AreFormed (scope_of p.binders) beneath → ((j : ℕ) → AreFormed (scope_of p.binders) (types_at ts j)) → IsFormedOutcome p o
  entry_formed o b l beneath ts e s v u each = subst⁻¹ (IsFormedOutcome p) e (
    λ j. record { locals = w.locals; labels = (v, w.labels); results = w.results; operands = joined (scope_of p.binders) (types_at ts j) (reverse b.params) (each j) (params_formed b s) },
    record { locals = changed (scope_of p.binders) b.locals p.locals (locals_formed b s) w.locals; labels = w.labels; results = w.results; operands = joined (scope_of p.binders) (reverse b.results) beneath (results_formed b s) u },
  )

  -- and a list that is entered below a binder
  below_formed : (o : Outcome) (b : BlockSig) (binder : Binder) (l : Label) (beneath : List Ty) (t : Ty) → o ≡ Enters (entry_below p b binder l beneath t) → IsSigned f p b → IsFormedLabel (scope_of p.binders) l → AreFormed (scope_of p.binders) beneath → IsWellFormed (within (binder ∷ []) (scope_of p.binders)) t → IsFormedOutcome p o
  below_formed o b binder l beneath t e s v u x = subst⁻¹ (IsFormedOutcome p) e (
    λ j. under_scope _ (within (binder ∷ []) (scope_of p.binders)) (within_last p.binders binder no_scope)
        (raised (scope_of p.binders) binder p.locals w.locals)
        (labels_raised (scope_of p.binders) binder (l ∷ p.labels) (v, w.labels))
        (raised (scope_of p.binders) binder p.results w.results)
        (more (within (binder ∷ []) (scope_of p.binders)) t (raise_all (below_one binder) (reverse b.params)) x (raised (scope_of p.binders) binder (reverse b.params) (params_formed b s))),
    record { locals = changed (scope_of p.binders) b.locals p.locals (locals_formed b s) w.locals; labels = w.labels; results = w.results; operands = joined (scope_of p.binders) (reverse b.results) beneath (results_formed b s) u },
  )

  pub row_block : (b : BlockSig) → IsFormedOutcome p (block_row f p b)
  row_block b = settled p (block_row f p b) (λ go. (
      let x = rows.block f p b (block_row f p b) refl go in
      let v = under p w (reverse b.params) x.beneath x.taken in
      entry_formed (block_row f p b) b (end_label p b x.beneath) x.beneath [] x.given x.is_signed (end_formed b x.beneath x.is_signed v) v (no_payload (scope_of p.binders))))

  pub row_loop : (b : BlockSig) → IsFormedOutcome p (loop_row f p b)
  row_loop b = settled p (loop_row f p b) (λ go. (
      let x = rows.loops f p b (loop_row f p b) refl go in
      let v = under p w (reverse b.params) x.beneath x.taken in
      entry_formed (loop_row f p b) b (start_label p b x.beneath) x.beneath [] x.given x.is_signed (start_formed b x.beneath x.is_signed v) v (no_payload (scope_of p.binders))))

  pub row_if : (b : BlockSig) → IsFormedOutcome p (if_row f p b)
  row_if b = settled p (if_row f p b) (λ go. (
      let x = rows.arms f p b (if_row f p b) refl go in
      let v = back (scope_of p.binders) (reverse b.params) x.beneath (top p w unr_i32 (reverse b.params ++ x.beneath) x.taken).1 in
      entry_formed (if_row f p b) b (end_label p b x.beneath) x.beneath [] x.given x.is_signed (end_formed b x.beneath x.is_signed v) v (no_payload (scope_of p.binders))))

  pub row_mem_unpack : (b : BlockSig) → IsFormedOutcome p (mem_unpack_row f p b)
  row_mem_unpack b = settled p (mem_unpack_row f p b) (λ go. (
      let x = rows.mem_unpack f p b (mem_unpack_row f p b) refl go in
      let y = top p w (Of x.qual (Hidden x.memory x.body)) (reverse b.params ++ x.beneath) x.taken in
      let v = back (scope_of p.binders) (reverse b.params) x.beneath y.1 in
      below_formed (mem_unpack_row f p b) b (Loc x.memory) (end_label p b x.beneath) x.beneath x.body x.given x.is_signed (end_formed b x.beneath x.is_signed v) v (hidden_body (scope_of p.binders) x.qual x.memory x.body y.0)))

  pub row_variant_case : (b : BlockSig) (lists : ℕ) → IsFormedOutcome p (variant_case_row f p b lists)
  row_variant_case b lists = settled p (variant_case_row f p b lists) (λ go. (
      let x = rows.variant_case f p b lists (variant_case_row f p b lists) refl go in
      let y = top p w x.first (reverse b.params ++ x.beneath) x.taken in
      let v = back (scope_of p.binders) (reverse b.params) x.beneath y.1 in
      let h = reference_parts (scope_of p.binders) x.first x.reference (Variant x.cases) x.form y.0 in
      entry_formed (variant_case_row f p b lists) b (end_label p b x.beneath) x.beneath (each_alone x.cases) x.given x.is_signed (end_formed b x.beneath x.is_signed v) v
      (λ j. payloads (scope_of p.binders) x.cases j (cases_formed (scope_of p.binders) x.reference.memory x.cases h.1))))

  pub row_exist_unpack : (b : BlockSig) → IsFormedOutcome p (exist_unpack_row f p b)
  row_exist_unpack b = settled p (exist_unpack_row f p b) (λ go. (
      let x = rows.exist_unpack f p b (exist_unpack_row f p b) refl go in
      let y = top p w x.first (reverse b.params ++ x.beneath) x.taken in
      let v = back (scope_of p.binders) (reverse b.params) x.beneath y.1 in
      let h = reference_parts (scope_of p.binders) x.first x.reference (Exist x.qual x.size x.body) x.form y.0 in
      below_formed (exist_unpack_row f p b) b (Kind x.qual x.size) (end_label p b x.beneath) x.beneath x.body x.given x.is_signed (end_formed b x.beneath x.is_signed v) v (package_body (scope_of p.binders) x.reference.memory x.qual x.size x.body h.1)))
