-- What is said of the parts of a form, as what is said of the form.
use Rattle.std.proofs.Common.{◌≡◌, ◌≤◌, ◌<◌, ◌∙◌, ℕ, Bool, List, ap, subst, arith}
use Rattle.std.specs.Prelude.{◌↔◌, IsTrue}
use Rattle.std.proofs.Math.Path.{subst⁻¹}
use Rattle.std.proofs.Math.Dec.{leb}
use Rattle.rw_types.specs.declared.types.Mem.{Mem}
use Rattle.rw_types.specs.declared.types.Qual.{Qual}
use Rattle.rw_types.specs.declared.types.Qual.TheVariants.{Unr}
use Rattle.rw_types.specs.declared.types.Slot.{Slot}
use Rattle.rw_types.specs.declared.types.FunType.{FunType}
use Rattle.rw_types.specs.declared.types.Ty.{Ty}
use Rattle.rw_types.specs.declared.types.Ty.TheVariants.{Rec}
use Rattle.rw_types.specs.declared.types.Pre.{Pre}
use Rattle.rw_types.specs.declared.types.Pre.TheVariants.{Tuple, Hidden, Code}
use Rattle.rw_types.specs.declared.types.Heap.{Heap}
use Rattle.rw_types.specs.declared.types.Heap.TheVariants.{Struct, Variant, Array, Exist}
use Rattle.rich_types.specs.Scopes.{Scope, with_location, with_variable}
use Rattle.rich_types.specs.Sizes.{size_under, heap_words}
use Rattle.rich_types.specs.WellFormed.{most_words, content_qual, IsBodyOf, IsPart, IsWellFormed, IsWellFormedPre, IsWellFormedHeap, AreParts, AreSlots, IsWellFormedFunction}
use Rattle.rich_types.proofs.Bounded.{size-well_formed, words-well_formed}
use Rattle.rw_quals_sizes.specs.Capped.{capped}
use Rattle.std.proofs.lemmas.Bool.{leb-true, le-leb}
use Rattle.rich_types.proofs.Sized.{form-Rec, form-Tuple, form-Hidden, form-Code, form-Struct, form-Variant, form-Array, form-Exist, words-Struct, words-Variant, words-Array, words-Exist}

-- what holds exactly where the one holds, holds exactly where the other does, which is the same
along : {A B : Type 0} (P : Type 0) → A ≡ B → P ↔ B → P ↔ A
along P e w = (λ p. subst⁻¹ (λ (X : Type 0). X) e (w.0 p), λ a. w.1 (subst (λ (X : Type 0). X) e a))

module _ (c : Scope) (r : Bool) where
  -- a form with a list in it
  module _ (q : Qual) (ts us : List Ty) (same : us ≡ ts) (w : IsTrue r ↔ AreParts c q us) where
    parts : IsTrue r ↔ AreParts c q ts
    parts = (λ p. subst (AreParts c q) same (w.0 p), λ a. w.1 (subst⁻¹ (AreParts c q) same a))

    pub tuple_formed : (p : Pre) → p ≡ Tuple ts → IsTrue r ↔ IsWellFormedPre c q p
    tuple_formed p form = along (IsTrue r) (ap (IsWellFormedPre c q) form ∙ form-Tuple c q ts) parts

    pub variant_formed : (m : Mem) (h : Heap) → q ≡ content_qual m → h ≡ Variant ts → heap_words c h ≤ most_words → IsTrue r ↔ IsWellFormedHeap c m h
    variant_formed m h content form few =
        along (IsTrue r) (ap (IsWellFormedHeap c m) form ∙ form-Variant c m ts) (
          λ p. (subst (λ (n : ℕ). n ≤ most_words) (ap (heap_words c) form ∙ words-Variant c ts) few, subst (λ x. AreParts c x ts) content (parts.0 p)),
          λ a. parts.1 (subst⁻¹ (λ x. AreParts c x ts) content a.1),
        )

  pub struct_formed : (ss rs : List Slot) → rs ≡ ss → IsTrue r ↔ AreSlots c rs → (m : Mem) (h : Heap) → h ≡ Struct ss → heap_words c h ≤ most_words → IsTrue r ↔ IsWellFormedHeap c m h
  struct_formed ss rs same w m h form few =
      along (IsTrue r) (ap (IsWellFormedHeap c m) form ∙ form-Struct c m ss) (
        λ p. (subst (λ (n : ℕ). n ≤ most_words) (ap (heap_words c) form ∙ words-Struct c ss) few, subst (AreSlots c) same (w.0 p)),
        λ a. w.1 (subst⁻¹ (AreSlots c) same a.1),
      )

  pub code_formed : (g f : FunType) → f ≡ g → IsTrue r ↔ IsWellFormedFunction c f → (q : Qual) (p : Pre) → p ≡ Code g → IsTrue r ↔ IsWellFormedPre c q p
  code_formed g f same w q p form =
      along (IsTrue r) (ap (IsWellFormedPre c q) form ∙ form-Code c q g)
      (λ x. subst (IsWellFormedFunction c) same (w.0 x), λ a. w.1 (subst⁻¹ (IsWellFormedFunction c) same a))

  pub array_formed : (t u : Ty) → u ≡ t → IsTrue r ↔ IsPart c Unr u → (m : Mem) (h : Heap) → h ≡ Array t → heap_words c h ≤ most_words → IsTrue r ↔ IsWellFormedHeap c m h
  array_formed t u same w m h form few =
      along (IsTrue r) (ap (IsWellFormedHeap c m) form ∙ form-Array c m t) (
        λ p. (let part = subst (IsPart c Unr) same (w.0 p) in (subst (λ (n : ℕ). n ≤ most_words) (ap (heap_words c) form ∙ words-Array c t) few, part.0, part.1)),
        λ a. w.1 (subst⁻¹ (IsPart c Unr) same (a.1, a.2)),
      )

  -- a form with a binder in it
  module _ (e : Scope) (t u : Ty) (same : u ≡ t) where
    pub hidden_formed : (q : Qual) → IsTrue r ↔ IsPart e q u → (m : Mem) (p : Pre) → p ≡ Hidden m t → e ≡ with_location m c → IsTrue r ↔ IsWellFormedPre c q p
    hidden_formed q w m p form inner =
        along (IsTrue r) (ap (IsWellFormedPre c q) form ∙ form-Hidden c q m t)
        (λ x. subst (λ s. IsPart s q t) inner (subst (IsPart e q) same (w.0 x)), λ a. w.1 (subst⁻¹ (IsPart e q) same (subst⁻¹ (λ s. IsPart s q t) inner a)))

    pub exist_formed : (most : Qual) → IsTrue r ↔ IsPart e most u → (m : Mem) → most ≡ content_qual m → (q : Qual) (s : ℕ) (h : Heap) → h ≡ Exist q s t → e ≡ with_variable q s c → heap_words c h ≤ most_words → IsTrue r ↔ IsWellFormedHeap c m h
    exist_formed most w m content q s h form inner few =
        along (IsTrue r) (ap (IsWellFormedHeap c m) form ∙ form-Exist c m q s t) (
          λ x. (let part = subst (λ y. IsPart (with_variable q s c) y t) content (subst (λ y. IsPart y most t) inner (subst (IsPart e most) same (w.0 x))) in
              (subst (λ (n : ℕ). n ≤ most_words) (ap (heap_words c) form ∙ words-Exist c q s t) few, part.0, part.1)),
          λ a. w.1 (subst⁻¹ (IsPart e most) same (subst⁻¹ (λ y. IsPart y most t) inner (subst⁻¹ (λ y. IsPart (with_variable q s c) y t) content (a.1, a.2)))),
        )

    pub rec_formed : (q : Qual) (s : ℕ) → s ≤ most_words → IsTrue r ↔ (IsWellFormed e u × IsBodyOf q s e u) → (v : Ty) → v ≡ Rec q s t → e ≡ with_variable q s c → IsTrue r ↔ IsWellFormed c v
    rec_formed q s few w v form inner =
        along (IsTrue r) (ap (IsWellFormed c) form ∙ form-Rec c q s t) (
          λ x. (let body = subst (λ y. IsWellFormed y t × IsBodyOf q s y t) inner (subst (λ y. IsWellFormed e y × IsBodyOf q s e y) same (w.0 x)) in (few, body.0, body.1)),
          λ a. w.1 (subst⁻¹ (λ y. IsWellFormed e y × IsBodyOf q s e y) same (subst⁻¹ (λ y. IsWellFormed y t × IsBodyOf q s y t) inner (a.1, a.2))),
        )

-- neither holds
neither : {A B : Type 0} → (A → ⊥) → (B → ⊥) → A ↔ B
neither f g = (λ a. absurd (f a), λ b. absurd (g b))

pub rec_too_large : (c : Scope) (q : Qual) (s : ℕ) (t v : Ty) → v ≡ Rec q s t → 10000 < s → IsTrue (leb s 10000) ↔ IsWellFormed c v
rec_too_large c q s t v form many =
    neither (λ h. absurd (omega (arith, leb-true s 10000 h)))
    (λ w. (let few = (subst (λ (X : Type 0). X) (ap (IsWellFormed c) form ∙ form-Rec c q s t) w).0 in absurd (omega arith)))

pub heap_too_large : (c : Scope) (m : Mem) (h : Heap) (n : ℕ) → n ≡ capped (heap_words c h) → 10000 < n → IsTrue (leb n 10000) ↔ IsWellFormedHeap c m h
heap_too_large c m h n is many =
    neither (λ e. absurd (omega (arith, leb-true n 10000 e))) (λ w. (let few = words-well_formed c m h w in absurd (omega arith)))

-- a well-formed type has at most as many words as are told exactly
pub slot_formed : (c : Scope) (t : Ty) (s n : ℕ) → IsWellFormed c t → n ≡ capped (size_under c t) → IsTrue (leb n s) ↔ (IsWellFormed c t × (size_under c t ≤ s))
slot_formed c t s n w is =
    let few = size-well_formed c t w in
    let same : n ≡ size_under c t = omega arith in
    (λ e. (w, omega (arith, leb-true n s e)), λ x. (let le : n ≤ s = omega (arith, x.1) in le-leb n s le))
