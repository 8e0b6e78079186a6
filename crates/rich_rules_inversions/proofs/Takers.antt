-- What holds where a condition or a form is passed: an inversion for each taker.
use Rattle.std.proofs.Common.{◌≡◌, ◌≤◌, ℕ, List, [], ◌∷◌, Bool, true, false, not, Option, Some, None, refl, ap, sym, subst, length, take, drop, cond, arith}
use Rattle.std.specs.Prelude.{IsTrue, IsFalse, nat_lt}
use Rattle.std.proofs.lemmas.Bool.{ltb-false}
use Rattle.rw_types.specs.declared.types.Heap.{Heap, Struct', Array', items-the_row-Slot}
use Rattle.rw_types.specs.declared.types.Heap.TheVariants.{Array, Struct}
use Rattle.rw_types.specs.declared.types.Heap.TheBlock.{hidden-the_row-Ty-2}
use Rattle.rw_types.specs.declared.types.Mem.{Mem}
use Rattle.rw_types.specs.declared.types.Mem.TheVariants.{L, U}
use Rattle.rw_types.specs.declared.types.Pre.{Cap, Own, Ptr, Ref}
use Rattle.rw_types.specs.declared.types.Priv.{Priv}
use Rattle.rw_types.specs.declared.types.Priv.TheVariants.{R, Rw}
use Rattle.rw_types.specs.declared.types.Qual.{Qual}
use Rattle.rw_types.specs.declared.types.Slot.{Slot}
use Rattle.rw_types.specs.declared.types.Ty.{Of, Ty, end_of-Ty, more_of-Ty}
use Rattle.rich_types.specs.Scopes.{Scope, memory_of}
use Rattle.rich_types_laws.proofs.Unchanged.{whole-Struct}
use Rattle.rich_typing.specs.declared.rules.Rule.{Rule}
use Rattle.rich_typing.specs.declared.rules.Rule.TheVariants as rule
use Rattle.rich_rules.specs.Equality.{same}
use Rattle.rich_rules.specs.Forms.{is_formed, is_linear_location, is_linear_memory, is_r, is_rw, is_unr}
use Rattle.rich_rules.specs.Points.{Broke, Breaks, Outcome}
use Rattle.rich_rules.specs.Takers.{Difference, Reference, array_at, array_form, cap_form, difference, gives, gives_formed, held_ref_form, last_difference, need, of_type, one, or_else, other_form, own_form, package_at, ptr_form, reference_form, struct_at, struct_form, taking, these, three, two, variant_at, with_some, without, without_difference}
use Rattle.rich_rules_laws.proofs.Compared.{sound}
use Rattle.rich_rules_inversions.specs.Cells.{Goes, IsCapability, IsReference}

-- a broken rule does not go on
pub stops : {A : Type 0} {b : _} {o : Outcome} → Breaks b ≡ o → Goes o → A
stops e go = absurd (subst Goes (sym e) go)

module _ (o : Outcome) (go : Goes o) where
  pub need-passed : (b : Bool) (broken : Rule) (found expected : Option Ty) (rest : Outcome) → need b broken found expected rest ≡ o → IsTrue b × (rest ≡ o)
  need-passed true broken found expected rest r = (refl, r)
  need-passed false broken found expected rest r = stops r go

  pub with_some-passed : {A : Type 0} (x : Option A) (broken : Rule) (found : Option Ty) (rest : A → Outcome) → with_some x broken found rest ≡ o → (a : A) × (x ≡ Some a) × (rest a ≡ o)
  with_some-passed (Some a) broken found rest r = (a, refl, r)
  with_some-passed None broken found rest r = stops r go

  pub without-passed : (x : Option Ty) (broken : Rule) (rest : Outcome) → without x broken rest ≡ o → (x ≡ None) × (rest ≡ o)
  without-passed None broken rest r = (refl, r)
  without-passed (Some t) broken rest r = stops r go

  pub without_difference-passed : (x : Option Difference) (broken : Rule) (rest : Outcome) → without_difference x broken rest ≡ o → (x ≡ None) × (rest ≡ o)
  without_difference-passed None broken rest r = (refl, r)
  without_difference-passed (Some (Rattle.rich_rules.specs.Takers.Differ t u)) broken rest r = stops r go

  pub taking-passed : (n : ℕ) (operands : List Ty) (rest : List Ty → List Ty → Outcome) → taking n operands rest ≡ o → (n ≤ length operands) × (rest (take n operands) (drop n operands) ≡ o)
  taking-passed n operands rest r = by_test (nat_lt (length operands) n) refl r
    where
      by_test : (b : Bool) → nat_lt (length operands) n ≡ b → cond b (Breaks (Broke rule.Operands None None)) (rest (take n operands) (drop n operands)) ≡ o → (n ≤ length operands) × (rest (take n operands) (drop n operands) ≡ o)
      by_test true e r = stops r go
      by_test false e r = (omega (arith, ltb-false (length operands) n e), r)

  pub one-passed : (operands : List Ty) (rest : Ty → List Ty → Outcome) → one operands rest ≡ o → (t : Ty) × (beneath : List Ty) × (operands ≡ t ∷ beneath) × (rest t beneath ≡ o)
  one-passed (t ∷ beneath) rest r = (t, beneath, refl, r)
  one-passed [] rest r = stops r go

  pub two-passed : (operands : List Ty) (rest : Ty → Ty → List Ty → Outcome) → two operands rest ≡ o → (t : Ty) × (u : Ty) × (beneath : List Ty) × (operands ≡ t ∷ u ∷ beneath) × (rest t u beneath ≡ o)
  two-passed (t ∷ u ∷ beneath) rest r = (t, u, beneath, refl, r)
  two-passed (t ∷ []) rest r = stops r go
  two-passed [] rest r = stops r go

  pub three-passed : (operands : List Ty) (rest : Ty → Ty → Ty → List Ty → Outcome) → three operands rest ≡ o → (t : Ty) × (u : Ty) × (v : Ty) × (beneath : List Ty) × (operands ≡ t ∷ u ∷ v ∷ beneath) × (rest t u v beneath ≡ o)
  three-passed (t ∷ u ∷ v ∷ beneath) rest r = (t, u, v, beneath, refl, r)
  three-passed (t ∷ u ∷ []) rest r = stops r go
  three-passed (t ∷ []) rest r = stops r go
  three-passed [] rest r = stops r go

  pub of_type-passed : (demanded t : Ty) (rest : Outcome) → of_type demanded t rest ≡ o → (t ≡ demanded) × (rest ≡ o)
  of_type-passed demanded t rest r = let x = need-passed (same t demanded) rule.OperandType (Some t) (Some demanded) rest r in (sound t demanded x.0, x.1)

  pub gives_formed-passed : (c : Scope) (t : Ty) (beneath : List Ty) → gives_formed c t beneath ≡ o → IsTrue (is_formed c t) × (o ≡ gives (t ∷ []) beneath)
  gives_formed-passed c t beneath r = let x = need-passed (is_formed c t) rule.TypeForm (Some t) None (gives (t ∷ []) beneath) r in (x.0, sym x.1)

  -- one operand of a type that is told
  pub this-passed : (demanded : Ty) (operands : List Ty) (rest : List Ty → Outcome) → these (demanded ∷ []) operands rest ≡ o → (beneath : List Ty) × (operands ≡ demanded ∷ beneath) × (rest beneath ≡ o)
  this-passed demanded [] rest r = stops r go
  this-passed demanded (t ∷ operands) rest r = by_test (same t demanded) refl (without_difference-passed (difference t demanded) rule.OperandType (rest operands) (taking-passed 1 (t ∷ operands) (λ taken beneath. without_difference (last_difference taken (demanded ∷ [])) rule.OperandType (rest beneath)) r).1)
    where
      by_test : (b : Bool) → same t demanded ≡ b → (cond b None (Some (Rattle.rich_rules.specs.Takers.Differ t demanded)) ≡ None) × (rest operands ≡ o) → (beneath : List Ty) × (t ∷ operands ≡ demanded ∷ beneath) × (rest beneath ≡ o)
      by_test true e x = (operands, ap (λ (u : Ty). u ∷ operands) (sound t demanded e), x.1)
      by_test false e x = cc

  not_unr : (q : Qual) → IsTrue (not (is_unr q)) → IsFalse (is_unr q)
  not_unr q e = flip (is_unr q) e
    where
      flip : (b : Bool) → not b ≡ true → b ≡ false
      flip true e = cc
      flip false e = refl

  pub cap_form-passed : (t : Ty) (rest : Priv → ℕ → Heap → Outcome) → cap_form t rest ≡ o → (p : Priv) × (l : ℕ) × (h : Heap) × IsCapability t p l h × (rest p l h ≡ o)
  cap_form-passed (Of q (Cap p l h)) rest r = let x = need-passed (not (is_unr q)) rule.OperandType (Some (Of q (Cap p l h))) None (rest p l h) r in (p, l, h, record { qual = q; form = refl; held = not_unr q x.0 }, x.1)
  cap_form-passed _ rest r = stops r go

  pub own_form-passed : (t : Ty) (rest : ℕ → Outcome) → own_form t rest ≡ o → (q : Qual) × (l : ℕ) × (t ≡ Of q (Own l)) × IsFalse (is_unr q) × (rest l ≡ o)
  own_form-passed (Of q (Own l)) rest r = let x = need-passed (not (is_unr q)) rule.OperandType (Some (Of q (Own l))) None (rest l) r in (q, l, refl, not_unr q x.0, x.1)
  own_form-passed _ rest r = stops r go

  pub ptr_form-passed : (t : Ty) (rest : ℕ → Outcome) → ptr_form t rest ≡ o → (q : Qual) × (l : ℕ) × (t ≡ Of q (Ptr l)) × IsTrue (is_unr q) × (rest l ≡ o)
  ptr_form-passed (Of q (Ptr l)) rest r = let x = need-passed (is_unr q) rule.OperandType (Some (Of q (Ptr l))) None (rest l) r in (q, l, refl, x.0, x.1)
  ptr_form-passed _ rest r = stops r go

  pub held_ref_form-passed : (t : Ty) (rest : Priv → ℕ → Heap → Outcome) → held_ref_form t rest ≡ o → (q : Qual) × (p : Priv) × (l : ℕ) × (h : Heap) × (t ≡ Of q (Ref p l h)) × IsFalse (is_unr q) × (rest p l h ≡ o)
  held_ref_form-passed (Of q (Ref p l h)) rest r = let x = need-passed (not (is_unr q)) rule.OperandType (Some (Of q (Ref p l h))) None (rest p l h) r in (q, p, l, h, refl, not_unr q x.0, x.1)
  held_ref_form-passed _ rest r = stops r go

  pub reference_form-passed : (c : Scope) (t : Ty) (rest : Reference → Heap → Outcome) → reference_form c t rest ≡ o → (r : Reference) × (h : Heap) × IsReference c t r h × (rest r h ≡ o)
  reference_form-passed c (Of q (Ref p l h)) rest r =
      let x = with_some-passed (memory_of c l) rule.OperandType (Some (Of q (Ref p l h))) (λ m. rest (record { qual = q; privilege = p; location = l; memory = m }) h) r in
      (record { qual = q; privilege = p; location = l; memory = x.0 }, h, record { form = refl; memory = x.1 }, x.2)
  reference_form-passed c _ rest r = stops r go

  struct_at-passed : (t : Ty) (h : Heap) (rest : List Slot → Outcome) → struct_at t h rest ≡ o → (slots : List Slot) × (h ≡ Struct slots) × (rest slots ≡ o)
  struct_at-passed t (Struct' m ss) rest r = (items-the_row-Slot _ ss, sym (whole-Struct m ss), r)
  struct_at-passed t _ rest r = stops r go

  array_at-passed : (t : Ty) (h : Heap) (rest : Ty → Outcome) → array_at t h rest ≡ o → (u : Ty) × (h ≡ Array u) × (rest u ≡ o)
  unfolding hidden-the_row-Ty-2 denote.Hole.Carrier.hidden
  array_at-passed t (Array' a (more_of-Ty u end_of-Ty)) rest r = (u, refl, r)
  array_at-passed t _ rest r = stops r go

  pub struct_form-passed : (c : Scope) (t : Ty) (rest : Reference → List Slot → Outcome) → struct_form c t rest ≡ o → (r : Reference) × (slots : List Slot) × IsReference c t r (Struct slots) × (rest r slots ≡ o)
  struct_form-passed c t rest r =
      let x = reference_form-passed c t (λ r h. struct_at t h (rest r)) r in
      let y = struct_at-passed t x.1 (rest x.0) x.3 in
      (x.0, y.0, subst (IsReference c t x.0) y.1 x.2, y.2)

  pub array_form-passed : (c : Scope) (t : Ty) (rest : Reference → Ty → Outcome) → array_form c t rest ≡ o → (r : Reference) × (u : Ty) × IsReference c t r (Array u) × (rest r u ≡ o)
  array_form-passed c t rest r =
      let x = reference_form-passed c t (λ r h. array_at t h (rest r)) r in
      let y = array_at-passed t x.1 (rest x.0) x.3 in
      (x.0, y.0, subst (IsReference c t x.0) y.1 x.2, y.2)

-- what tests of privileges and memories tell
pub rw_is : (p : Priv) → IsTrue (is_rw p) → p ≡ Rw
rw_is Rw e = refl
rw_is R e = cc

pub r_is : (p : Priv) → IsTrue (is_r p) → p ≡ R
r_is R e = refl
r_is Rw e = cc

pub memory_is : (m : Mem) → IsTrue (is_linear_memory m) → m ≡ L
memory_is L e = refl
memory_is U e = cc

pub location_is : (x : Option Mem) → IsTrue (is_linear_location x) → x ≡ Some L
location_is (Some L) e = refl
location_is (Some U) e = cc
location_is None e = cc
