-- Inversions of the takers of several operands, of signatures and of further forms.
use Rattle.std.proofs.Common.{◌≡◌, ◌∙◌, ◌≤◌, ℕ, suc, ◌+◌, List, [], ◌∷◌, ◌++◌, Bool, true, false, Option, Some, None, refl, ap, sym, subst, length, take, drop, cond, reverse, arith}
use Rattle.std.specs.Prelude.{IsTrue}
use Rattle.rw_types.specs.declared.instrs.BlockSig.{BlockSig}
use Rattle.rw_types.specs.declared.types.FunType.{FunType}
use Rattle.rw_types.specs.declared.types.Heap.{Heap, Exist', Variant'}
use Rattle.rw_types.specs.declared.types.Heap.TheVariants.{Exist, Variant}
use Rattle.rw_types.specs.declared.types.Heap.TheBlock.{hidden-the_row-Ty-2}
use Rattle.rw_types.specs.declared.types.Mem.{Mem}
use Rattle.rw_types.specs.declared.types.Pre.{Code', Hidden', Pre, Tuple', end_of-FunType, more_of-FunType}
use Rattle.rw_types.specs.declared.types.Pre.TheVariants.{Code, Hidden, Tuple}
use Rattle.rw_types.specs.declared.types.Qual.{Qual}
use Rattle.rw_types.specs.declared.types.Ty.{Of, Rec', Ty, end_of-Ty, items-the_row-Ty, more_of-Ty}
use Rattle.rw_types.specs.declared.types.Ty.TheVariants.{Rec}
use Rattle.rich_types.specs.Scopes.{Scope, scope_of}
use Rattle.rich_types_laws.proofs.Unchanged.{whole-Code, whole-Tuple, whole-Variant}
use Rattle.rich_typing.specs.declared.rules.Rule.TheVariants as rule
use Rattle.rich_rules.specs.Equality.{same}
use Rattle.rich_rules.specs.Forms.{first_ill_formed, is_unr}
use Rattle.rich_rules.specs.Points.{Frame, Outcome, Point}
use Rattle.rich_rules.specs.Blocks.{are_named_once, first_too_large, local_types, signed}
use Rattle.rich_rules.specs.Takers.{Difference, Differ, Reference, code_form, difference, gives, gives_all_formed, hidden_form, last_difference, one, one_over, or_else, package_at, package_form, rec_form, taking, these, tuple_form, unr_form, variant_at, variant_form, without_difference}
use Rattle.rich_rules_laws.proofs.Compared.{sound}
use Rattle.rich_rules_inversions.specs.Cells.{Goes, IsReference}
use Rattle.rich_rules_inversions.specs.Bodies.{IsSigned}
use Rattle.rich_rules_inversions.proofs.Takers.{need-passed, reference_form-passed, stops, taking-passed, without-passed, without_difference-passed}

-- no difference between two types, and among lists
same_type : (t u : Ty) → difference t u ≡ None → t ≡ u
same_type t u e = by_test (same t u) refl e
  where
    by_test : (b : Bool) → same t u ≡ b → cond b None (Some (Differ t u)) ≡ None → t ≡ u
    by_test true f e = sound t u f
    by_test false f e = cc

neither : (x y : Option Difference) → or_else x y ≡ None → (x ≡ None) × (y ≡ None)
neither None y e = (refl, e)
neither (Some d) y e = cc

matched : (demanded operands : List Ty) → length demanded ≤ length operands → last_difference (take (length demanded) operands) demanded ≡ None → operands ≡ demanded ++ drop (length demanded) operands
matched [] operands l e = refl
matched (d ∷ demanded) [] l e = absurd (omega (arith, l))
matched (d ∷ demanded) (t ∷ operands) l e =
    let x = neither (last_difference (take (length demanded) operands) demanded) (difference t d) e in
    let few : length demanded ≤ length operands = omega (arith, l) in
    ap (λ (u : Ty). u ∷ operands) (same_type t d x.1) ∙ ap (λ (ts : List Ty). d ∷ ts) (matched demanded operands few x.0)

one_more : (n : ℕ) → n + 1 ≡ suc n
one_more n = omega arith

module _ (o : Outcome) (go : Goes o) where
  pub these-passed : (demanded operands : List Ty) (rest : List Ty → Outcome) → these demanded operands rest ≡ o → (beneath : List Ty) × (operands ≡ demanded ++ beneath) × (rest beneath ≡ o)
  these-passed demanded operands rest r =
      let x = taking-passed o go (length demanded) operands (λ taken beneath. without_difference (last_difference taken demanded) rule.OperandType (rest beneath)) r in
      let y = without_difference-passed o go (last_difference (take (length demanded) operands) demanded) rule.OperandType (rest (drop (length demanded) operands)) x.1 in
      (drop (length demanded) operands, matched demanded operands x.0 y.0, y.1)

  over : (demanded operands : List Ty) (rest : Ty → List Ty → Outcome) → taking (suc (length demanded)) operands (λ taken beneath. one taken (λ t under. without_difference (last_difference under demanded) rule.OperandType (rest t beneath))) ≡ o → (t : Ty) × (beneath : List Ty) × (operands ≡ t ∷ (demanded ++ beneath)) × (rest t beneath ≡ o)
  over demanded [] rest r = absurd (omega (arith, (taking-passed o go (suc (length demanded)) [] (λ taken beneath. one taken (λ t under. without_difference (last_difference under demanded) rule.OperandType (rest t beneath))) r).0))
  over demanded (t ∷ operands) rest r =
      let x = taking-passed o go (suc (length demanded)) (t ∷ operands) (λ taken beneath. one taken (λ t under. without_difference (last_difference under demanded) rule.OperandType (rest t beneath))) r in
      let few : length demanded ≤ length operands = omega (arith, x.0) in
      let y = without_difference-passed o go (last_difference (take (length demanded) operands) demanded) rule.OperandType (rest t (drop (length demanded) operands)) x.1 in
      (t, drop (length demanded) operands, ap (λ (ts : List Ty). t ∷ ts) (matched demanded operands few y.0), y.1)

  pub one_over-passed : (demanded operands : List Ty) (rest : Ty → List Ty → Outcome) → one_over demanded operands rest ≡ o → (t : Ty) × (beneath : List Ty) × (operands ≡ t ∷ (demanded ++ beneath)) × (rest t beneath ≡ o)
  one_over-passed demanded operands rest r = over demanded operands rest (subst (λ (n : ℕ). taking n operands (λ taken beneath. one taken (λ t under. without_difference (last_difference under demanded) rule.OperandType (rest t beneath))) ≡ o) (one_more (length demanded)) r)

  pub signed-passed : (f : Frame) (p : Point) (b : BlockSig) (rest : Outcome) → signed f p b rest ≡ o → IsSigned f p b × (rest ≡ o)
  signed-passed f p b rest r =
      let x = need-passed o go (are_named_once (length p.locals) b.locals) _ _ _ _ r in
      let y = without-passed o go (first_ill_formed (scope_of p.binders) (b.params ++ b.results ++ local_types b.locals)) _ _ x.1 in
      let z = without-passed o go (first_too_large (scope_of p.binders) f.slots b.locals) _ _ y.1 in
      (record { named = x.0; formed = y.0; fit = z.0 }, z.1)

  pub unr_form-passed : (t : Ty) (rest : Pre → Outcome) → unr_form t rest ≡ o → (q : Qual) × (p : Pre) × (t ≡ Of q p) × IsTrue (is_unr q) × (rest p ≡ o)
  unr_form-passed (Of q p) rest r = let x = need-passed o go (is_unr q) _ _ _ _ r in (q, p, refl, x.0, x.1)
  unr_form-passed _ rest r = stops r go

  pub tuple_form-passed : (t : Ty) (rest : List Ty → Outcome) → tuple_form t rest ≡ o → (q : Qual) × (ts : List Ty) × (t ≡ Of q (Tuple ts)) × (rest ts ≡ o)
  tuple_form-passed (Of q (Tuple' m ts)) rest r = (q, items-the_row-Ty _ ts, ap (Of q) (sym (whole-Tuple m ts)), r)
  tuple_form-passed _ rest r = stops r go

  pub rec_form-passed : (t : Ty) (rest : Ty → Outcome) → rec_form t rest ≡ o → (q : Qual) × (s : ℕ) × (u : Ty) × (t ≡ Rec q s u) × (rest u ≡ o)
  unfolding hidden-the_row-Ty-2 denote.Hole.Carrier.hidden
  rec_form-passed (Rec' q s a (more_of-Ty u end_of-Ty)) rest r = (q, s, u, refl, r)
  rec_form-passed _ rest r = stops r go

  pub hidden_form-passed : (t : Ty) (rest : Mem → Ty → Outcome) → hidden_form t rest ≡ o → (q : Qual) × (m : Mem) × (u : Ty) × (t ≡ Of q (Hidden m u)) × (rest m u ≡ o)
  unfolding hidden-the_row-Ty-2 denote.Hole.Carrier.hidden
  hidden_form-passed (Of q (Hidden' m a (more_of-Ty u end_of-Ty))) rest r = (q, m, u, refl, r)
  hidden_form-passed _ rest r = stops r go

  pub code_form-passed : (t : Ty) (rest : FunType → Outcome) → code_form t rest ≡ o → (q : Qual) × (g : FunType) × (t ≡ Of q (Code g)) × IsTrue (is_unr q) × (rest g ≡ o)
  code_form-passed (Of q (Code' a (more_of-FunType bs m ps n rs end_of-FunType))) rest r =
      let x = need-passed o go (is_unr q) _ _ _ _ r in
      (q, record { binders = bs; params = items-the_row-Ty _ ps; results = items-the_row-Ty _ rs }, ap (Of q) (sym (whole-Code a bs m ps n rs)), x.0, x.1)
  code_form-passed _ rest r = stops r go

  variant_at-passed : (t : Ty) (h : Heap) (rest : List Ty → Outcome) → variant_at t h rest ≡ o → (ts : List Ty) × (h ≡ Variant ts) × (rest ts ≡ o)
  variant_at-passed t (Variant' m ts) rest r = (items-the_row-Ty _ ts, sym (whole-Variant m ts), r)
  variant_at-passed t _ rest r = stops r go

  package_at-passed : (t : Ty) (h : Heap) (rest : Qual → ℕ → Ty → Outcome) → package_at t h rest ≡ o → (q : Qual) × (s : ℕ) × (u : Ty) × (h ≡ Exist q s u) × (rest q s u ≡ o)
  unfolding hidden-the_row-Ty-2 denote.Hole.Carrier.hidden
  package_at-passed t (Exist' q s a (more_of-Ty u end_of-Ty)) rest r = (q, s, u, refl, r)
  package_at-passed t _ rest r = stops r go

  pub variant_form-passed : (c : Scope) (t : Ty) (rest : Reference → List Ty → Outcome) → variant_form c t rest ≡ o → (r : Reference) × (ts : List Ty) × IsReference c t r (Variant ts) × (rest r ts ≡ o)
  variant_form-passed c t rest r =
      let x = reference_form-passed o go c t (λ r h. variant_at t h (rest r)) r in
      let y = variant_at-passed t x.1 (rest x.0) x.3 in
      (x.0, y.0, subst (IsReference c t x.0) y.1 x.2, y.2)

  pub package_form-passed : (c : Scope) (t : Ty) (rest : Reference → Qual → ℕ → Ty → Outcome) → package_form c t rest ≡ o → (r : Reference) × (q : Qual) × (s : ℕ) × (u : Ty) × IsReference c t r (Exist q s u) × (rest r q s u ≡ o)
  package_form-passed c t rest r =
      let x = reference_form-passed o go c t (λ r h. package_at t h (rest r)) r in
      let y = package_at-passed t x.1 (rest x.0) x.3 in
      (x.0, y.0, y.1, y.2, subst (IsReference c t x.0) y.3 x.2, y.4)

  pub gives_all_formed-passed : (c : Scope) (ts beneath : List Ty) → gives_all_formed c ts beneath ≡ o → (first_ill_formed c ts ≡ None) × (o ≡ gives (reverse ts) beneath)
  gives_all_formed-passed c ts beneath r = let x = without-passed o go (first_ill_formed c ts) _ _ r in (x.0, sym x.1)
