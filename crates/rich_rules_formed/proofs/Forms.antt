-- What is known of the parts of well-formed types, and well-formed types made of parts.
use Rattle.std.proofs.Common.{◌≡◌, ◌≤◌, ℕ, zero, suc, ◌+◌, List, [], ◌∷◌, Some, None, Option, refl, ap, sym, subst, arith}
use Rattle.std.specs.Prelude.{IsSome, min, slice_get, slice_set}
use Rattle.std.specs.Option.{IsSomeAnd}
use Rattle.std.proofs.Math.Path.{subst⁻¹}
use Rattle.std.proofs.Math.Nat.{min-eq_left}
use Rattle.std.proofs.lemmas.Bool.{leb-true}
use Rattle.rw_types.specs.declared.types.Arg.TheVariants.{Given}
use Rattle.rw_types.specs.declared.types.Binder.TheVariants.{Kind}
use Rattle.rw_types.specs.declared.types.FunType.{FunType}
use Rattle.rw_types.specs.declared.types.Heap.{Heap}
use Rattle.rw_types.specs.declared.types.Heap.TheVariants.{Struct, Variant, Array, Exist}
use Rattle.rw_types.specs.declared.types.Mem.{Mem}
use Rattle.rw_types.specs.declared.types.Mem.TheVariants.{L, U}
use Rattle.rw_types.specs.declared.types.Pre.{Pre, Unit, I32, I64, Tuple', Ref, Ptr, Cap, Own, Hidden', Code', end_of-FunType, more_of-FunType}
use Rattle.rw_types.specs.declared.types.Pre.TheVariants.{Tuple, Hidden, Code}
use Rattle.rw_types.specs.declared.types.Priv.{Priv}
use Rattle.rw_types.specs.declared.types.Qual.{Qual}
use Rattle.rw_types.specs.declared.types.Qual.TheVariants.{Unr, Lin}
use Rattle.rw_types.specs.declared.types.Slot.{Slot}
use Rattle.rw_types.specs.declared.types.Ty.{Ty, Of, Row_of-Ty, end_of-Ty, more_of-Ty}
use Rattle.rw_types.specs.declared.types.Ty.TheVariants.{Rec}
use Rattle.rich_types.specs.Scopes.{Scope, within, with_location, with_variable, memory_of}
use Rattle.rich_types.specs.Sizes.{qual_under, size_under, slot_words}
use Rattle.rich_types.specs.WellFormed.{most_words, content_qual, IsAtMost, MayRefer, IsWellFormed, IsWellFormedPre, IsWellFormedHeap, IsRowOfParts, AreParts, AreSlots}
use Rattle.rich_types.specs.Instances.{instance}
use Rattle.rich_types.proofs.Bounded.{size-well_formed}
use Rattle.rich_types.proofs.Sized.{size-Hidden, form-Rec, form-Tuple, form-Hidden, form-Code, form-Struct, form-Variant, form-Array, form-Exist}
use Rattle.rich_types_laws.proofs.Answered.{well_formed_instance}
use Rattle.rich_rules.specs.Takers.{Reference, unr_i32, unr_i64, unr_unit}
use Rattle.rich_rules_inversions.specs.Cells.{IsCapability, IsReference, SlotTakes}
use Rattle.rich_rules_formed.specs.Formed.{AreFormed}
use Rattle.rich_rules_formed.proofs.Lists.{any_qual, below_lin}

-- along an equation of types
turn : {A B : Type 0} → A ≡ B → A → B
turn e a = subst (λ (X : Type 0). X) e a

unturn : {A B : Type 0} → A ≡ B → B → A
unturn e b = subst⁻¹ (λ (X : Type 0). X) e b

no_words : 0 ≤ most_words
no_words = omega arith

one_word : 1 ≤ most_words
one_word = omega arith

own_most : (q : Qual) → IsAtMost q q
own_most Unr = tt
own_most Lin = tt

-- what was counted up to 10,001 and has at most 10,000 words was counted whole
counted : (n s : ℕ) → n ≤ most_words → min n 10001 ≤ s → n ≤ s
counted n s few fit = let low : n ≤ 10001 = omega (arith, few) in subst (λ (x : ℕ). x ≤ s) (min-eq_left low) fit

slots_found : (c : Scope) (ss : List Slot) (i : ℕ) (s : Slot) → slice_get ss i ≡ Some s → AreSlots c ss → IsWellFormed c s.ty × (size_under c s.ty ≤ s.size)
slots_found c [] i s e w = cc
slots_found c (x ∷ ss) zero s e w = let same : x ≡ s = cc in subst (λ (y : Slot). IsWellFormed c y.ty × (size_under c y.ty ≤ y.size)) same (w.0, w.1)
slots_found c (x ∷ ss) (suc i) s e w = slots_found c ss i s e w.2

slots_replaced : (c : Scope) (ss : List Slot) (i : ℕ) (t : Ty) (n : ℕ) → AreSlots c ss → IsWellFormed c t → size_under c t ≤ n → AreSlots c (slice_set ss i (record { ty = t; size = n }))
slots_replaced c [] i t n w v few = tt
slots_replaced c (x ∷ ss) zero t n w v few = (v, few, w.2)
slots_replaced c (x ∷ ss) (suc i) t n w v few = (w.0, w.1, slots_replaced c ss i t n w.2 v few)

words_same : (ss : List Slot) (i : ℕ) (s : Slot) (t : Ty) → slice_get ss i ≡ Some s → slot_words (slice_set ss i (record { ty = t; size = s.size })) ≡ slot_words ss
words_same [] i s t e = cc
words_same (x ∷ ss) zero s t e = let same : x ≡ s = cc in ap (λ (y : Slot). y.size + slot_words ss) (sym same)
words_same (x ∷ ss) (suc i) s t e = ap (λ (n : ℕ). x.size + n) (words_same ss i s t e)

module _ (c : Scope) where
  pub unit_formed : IsWellFormed c unr_unit
  unit_formed = (no_words, tt)

  pub i32_formed : IsWellFormed c unr_i32
  i32_formed = (one_word, tt)

  pub i64_formed : IsWellFormed c unr_i64
  i64_formed = (one_word, tt)

  pub parts_formed : (q : Qual) (ts : List Ty) → IsWellFormed c (Of q (Tuple ts)) → AreFormed c ts
  parts_formed q ts w = any_qual c q ts (turn (form-Tuple c q ts) w.1)

  pub hidden_body : (q : Qual) (m : Mem) (t : Ty) → IsWellFormed c (Of q (Hidden m t)) → IsWellFormed (with_location m c) t
  hidden_body q m t w = (turn (form-Hidden c q m t) w.1).0

  pub hidden_formed : (m : Mem) (t : Ty) → IsWellFormed (with_location m c) t → IsWellFormed c (Of (qual_under (with_location m c) t) (Hidden m t))
  hidden_formed m t w = let q = qual_under (with_location m c) t in
      (subst⁻¹ (λ (n : ℕ). n ≤ most_words) (size-Hidden c m t) (size-well_formed (with_location m c) t w), unturn (form-Hidden c q m t) (w, own_most q))

  pub results_formed : (q : Qual) (g : FunType) → IsWellFormed c (Of q (Code g)) → g.binders ≡ [] → AreFormed c g.results
  results_formed q g w e = subst (λ bs. AreParts (within bs c) Lin g.results) e (turn (form-Code c q g) w.1).1

  pub unfolded : (q : Qual) (s : ℕ) (t : Ty) → IsWellFormed c (Rec q s t) → IsWellFormed c (instance t (Given (Rec q s t) ∷ []))
  unfolded q s t w = (well_formed_instance c (Given (Rec q s t) ∷ []) (Kind q s ∷ []) t ((w, (refl, refl)), tt) (turn (form-Rec c q s t) w).1).0

  row_qualified : {n : _} (ts : Row_of-Ty n) → IsRowOfParts c Unr ts → IsRowOfParts c Lin ts
  row_qualified end_of-Ty w = tt
  row_qualified (more_of-Ty t ts) w = (w.0, below_lin (qual_under c t), row_qualified ts w.2)

  refer_qualified : (p : Priv) (h : Heap) (o : Option Mem) → IsSomeAnd o (λ m. MayRefer Unr p m × IsWellFormedHeap c m h) → IsSomeAnd o (λ m. MayRefer Lin p m × IsWellFormedHeap c m h)
  refer_qualified p h (Some L) w = (refl, w.1)
  refer_qualified p h (Some U) w = w
  refer_qualified p h None w = w

  pre_qualified : (p : Pre) → IsWellFormedPre c Unr p → IsWellFormedPre c Lin p
  pre_qualified Unit w = tt
  pre_qualified I32 w = tt
  pre_qualified I64 w = tt
  pre_qualified (Tuple' m ts) w = row_qualified ts w
  pre_qualified (Ref p l h) w = refer_qualified p h (memory_of c l) w
  pre_qualified (Ptr l) w = w
  pre_qualified (Cap p l h) w = ((refl, w.0.1), w.1)
  pre_qualified (Own l) w = (refl, w.1)
  pre_qualified (Hidden' m a (more_of-Ty t end_of-Ty)) w = (w.0, below_lin (qual_under (with_location m c) t))
  pre_qualified (Code' a (more_of-FunType bs m ps n rs end_of-FunType)) w = w

  pub qualified : (p : Pre) → IsWellFormed c (Of Unr p) → IsWellFormed c (Of Lin p)
  qualified p w = (w.0, pre_qualified p w.1)

  -- rights to a location of the linear memory
  pub pointer_formed : (l : ℕ) → memory_of c l ≡ Some L → IsWellFormed c (Of Unr (Ptr l))
  pointer_formed l e = (one_word, subst⁻¹ (λ (o : Option Mem). IsSome o) e refl)

  pub capability_formed : (p : Priv) (l : ℕ) (h : Heap) → memory_of c l ≡ Some L → IsWellFormedHeap c L h → IsWellFormed c (Of Lin (Cap p l h))
  capability_formed p l h e w = (no_words, ((refl, e), w))

  pub own_formed : (l : ℕ) → memory_of c l ≡ Some L → IsWellFormed c (Of Lin (Own l))
  own_formed l e = (no_words, (refl, e))

  pub linear_formed : (p : Priv) (l : ℕ) (h : Heap) → memory_of c l ≡ Some L → IsWellFormedHeap c L h → IsWellFormed c (Of Lin (Ref p l h))
  linear_formed p l h e w = (one_word, subst⁻¹ (λ (o : Option Mem). IsSomeAnd o (λ m. MayRefer Lin p m × IsWellFormedHeap c m h)) e (refl, w))

  pub capability_parts : (t : Ty) (p : Priv) (l : ℕ) (h : Heap) → IsCapability t p l h → IsWellFormed c t → (memory_of c l ≡ Some L) × IsWellFormedHeap c L h
  capability_parts t p l h x w = let v = subst (IsWellFormed c) x.form w in (v.1.0.1, v.1.1)

  -- references
  pub referred : (q : Qual) (p : Priv) (l : ℕ) (h : Heap) (m : Mem) → memory_of c l ≡ Some m → IsWellFormed c (Of q (Ref p l h)) → MayRefer q p m × IsWellFormedHeap c m h
  referred q p l h m e w = subst (λ (o : Option Mem). IsSomeAnd o (λ m'. MayRefer q p m' × IsWellFormedHeap c m' h)) e w.1

  pub reference_parts : (t : Ty) (r : Reference) (h : Heap) → IsReference c t r h → IsWellFormed c t → MayRefer r.qual r.privilege r.memory × IsWellFormedHeap c r.memory h
  reference_parts t r h x w = referred r.qual r.privilege r.location h r.memory x.memory (subst (IsWellFormed c) x.form w)

  reference_formed : (r : Reference) (h : Heap) → memory_of c r.location ≡ Some r.memory → MayRefer r.qual r.privilege r.memory → IsWellFormedHeap c r.memory h → IsWellFormed c (Of r.qual (Ref r.privilege r.location h))
  reference_formed r h e may w = (one_word, subst⁻¹ (λ (o : Option Mem). IsSomeAnd o (λ m. MayRefer r.qual r.privilege m × IsWellFormedHeap c m h)) e (may, w))

  -- what stands at locations
  pub slot_formed : (m : Mem) (ss : List Slot) (i : ℕ) (s : Slot) → IsWellFormedHeap c m (Struct ss) → slice_get ss i ≡ Some s → IsWellFormed c s.ty × (size_under c s.ty ≤ s.size)
  slot_formed m ss i s w e = slots_found c ss i s e (turn (form-Struct c m ss) w).1

  takes_few : (m : Mem) (s : Slot) (t : Ty) → SlotTakes c m s t → IsWellFormed c t → size_under c s.ty ≤ s.size → size_under c t ≤ s.size
  takes_few L s t fit w few = counted (size_under c t) s.size (size-well_formed c t w) (leb-true (min (size_under c t) 10001) s.size fit)
  takes_few U s t same w few = subst⁻¹ (λ (u : Ty). size_under c u ≤ s.size) same few

  -- the reference to a struct whose slot has another type
  pub set_formed : (t : Ty) (r : Reference) (ss : List Slot) (i : ℕ) (s : Slot) (u : Ty) → IsReference c t r (Struct ss) → IsWellFormed c t → slice_get ss i ≡ Some s → SlotTakes c r.memory s u → IsWellFormed c u → IsWellFormed c (Of r.qual (Ref r.privilege r.location (Struct (slice_set ss i (record { ty = u; size = s.size })))))
  set_formed t r ss i s u x w e takes v =
      let parts = reference_parts t r (Struct ss) x w in
      let old = turn (form-Struct c r.memory ss) parts.1 in
      let few = takes_few r.memory s u takes v (slots_found c ss i s e old.1).1 in
      reference_formed r (Struct (slice_set ss i (record { ty = u; size = s.size }))) x.memory parts.0
      (unturn (form-Struct c r.memory (slice_set ss i (record { ty = u; size = s.size }))) (subst⁻¹ (λ (n : ℕ). n ≤ most_words) (words_same ss i s u e) old.0, slots_replaced c ss i u s.size old.1 v few))

  pub cases_formed : (m : Mem) (ts : List Ty) → IsWellFormedHeap c m (Variant ts) → AreFormed c ts
  cases_formed m ts w = any_qual c (content_qual m) ts (turn (form-Variant c m ts) w).1

  pub element_formed : (m : Mem) (t : Ty) → IsWellFormedHeap c m (Array t) → IsWellFormed c t
  element_formed m t w = (turn (form-Array c m t) w).1

  pub package_body : (m : Mem) (q : Qual) (s : ℕ) (t : Ty) → IsWellFormedHeap c m (Exist q s t) → IsWellFormed (with_variable q s c) t
  package_body m q s t w = (turn (form-Exist c m q s t) w).1
