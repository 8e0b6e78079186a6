-- Sizes and rules of form over the trees that code makes: one equation for each constructor with types in it.
use Rattle.std.proofs.Common.{◌≡◌, ◌≤◌, ℕ, ◌+◌, List, refl, ap, ◌∙◌}
use Rattle.std.specs.Prelude.{max}
use Rattle.rw_types.specs.declared.types.Mem.{Mem}
use Rattle.rw_types.specs.declared.types.Qual.{Qual}
use Rattle.rw_types.specs.declared.types.Qual.TheVariants.{Unr, Lin}
use Rattle.rw_types.specs.declared.types.Slot.{Slot}
use Rattle.rw_types.specs.declared.types.FunType.{FunType}
use Rattle.rw_types.specs.declared.types.Ty.{Ty, Row_of-Ty, end_of-Ty, more_of-Ty, items-the_row-Ty, items_hidden-the_row-Ty-1}
use Rattle.rw_types.specs.declared.types.Ty.TheVariants.{Rec}
use Rattle.rw_types.specs.declared.types.Pre.TheVariants.{Tuple, Hidden, Code}
use Rattle.rw_types.specs.declared.types.Heap.{Row_of-Slot, end_of-Slot, more_of-Slot, items-the_row-Slot, items_hidden-the_row-Slot-0}
use Rattle.rw_types.specs.declared.types.Heap.TheVariants.{Struct, Variant, Array, Exist}
use Rattle.rw_types.specs.declared.types.Heap.TheBlock.{hidden-the_row-Ty-1, hidden-the_row-Ty-2, hidden-the_row-Slot-0, hidden-the_row-FunType-3}
use Rattle.rich_types.specs.Scopes.{Scope, with_location, with_variable, within}
use Rattle.rich_types.specs.Sizes.{size_under, pre_size, heap_words, row_size, row_greatest, row_slot_words, list_size, list_greatest, slot_words, qual_under}
use Rattle.rich_types.specs.WellFormed.{most_words, content_qual, IsAtMost, IsBodyOf, IsPart, IsWellFormed, IsWellFormedPre, IsWellFormedHeap, IsRowOfParts, IsRowOfSlots, AreParts, AreSlots, IsWellFormedFunction}

module _ (c : Scope) where
  row_size-items : {n : _} (row : Row_of-Ty n) → row_size c row ≡ list_size c (items-the_row-Ty _ row)
  row_size-items end_of-Ty = refl
  row_size-items (more_of-Ty t ts) = ap (λ (n : ℕ). size_under c t + n) (row_size-items ts)

  row_greatest-items : {n : _} (row : Row_of-Ty n) → row_greatest c row ≡ list_greatest c (items-the_row-Ty _ row)
  row_greatest-items end_of-Ty = refl
  row_greatest-items (more_of-Ty t ts) = ap (λ (n : ℕ). max (size_under c t) n) (row_greatest-items ts)

  pub size-Tuple : (ts : List Ty) → pre_size c (Tuple ts) ≡ list_size c ts
  size-Tuple ts = row_size-items (hidden-the_row-Ty-1 ts) ∙ ap (list_size c) (items_hidden-the_row-Ty-1 ts)

  pub size-Hidden : (m : Mem) (t : Ty) → pre_size c (Hidden m t) ≡ size_under (with_location m c) t
  unfolding hidden-the_row-Ty-2 denote.Hole.Carrier.hidden
  size-Hidden m t = refl

  pub size-Code : (g : FunType) → pre_size c (Code g) ≡ 1
  size-Code g = refl

  pub size-Rec : (q : Qual) (s : ℕ) (t : Ty) → size_under c (Rec q s t) ≡ s
  size-Rec q s t = refl

  pub qual-Rec : (q : Qual) (s : ℕ) (t : Ty) → qual_under c (Rec q s t) ≡ q
  qual-Rec q s t = refl

  pub words-Variant : (ts : List Ty) → heap_words c (Variant ts) ≡ 1 + list_greatest c ts
  words-Variant ts = ap (λ (n : ℕ). 1 + n) (row_greatest-items (hidden-the_row-Ty-1 ts) ∙ ap (list_greatest c) (items_hidden-the_row-Ty-1 ts))

  pub words-Array : (t : Ty) → heap_words c (Array t) ≡ 1 + size_under c t
  unfolding hidden-the_row-Ty-2 denote.Hole.Carrier.hidden
  words-Array t = refl

  pub words-Exist : (q : Qual) (s : ℕ) (t : Ty) → heap_words c (Exist q s t) ≡ size_under (with_variable q s c) t
  unfolding hidden-the_row-Ty-2 denote.Hole.Carrier.hidden
  words-Exist q s t = refl

row_slot_words-items : {n : _} (row : Row_of-Slot n) → row_slot_words row ≡ slot_words (items-the_row-Slot _ row)
row_slot_words-items end_of-Slot = refl
row_slot_words-items (more_of-Slot t s ss) = ap (λ (n : ℕ). s + n) (row_slot_words-items ss)

pub words-Struct : (c : Scope) (ss : List Slot) → heap_words c (Struct ss) ≡ slot_words ss
words-Struct c ss = row_slot_words-items (hidden-the_row-Slot-0 ss) ∙ ap slot_words (items_hidden-the_row-Slot-0 ss)

pub ruleset sizes = (size-Tuple, size-Hidden, size-Code, size-Rec, qual-Rec, words-Struct, words-Variant, words-Array, words-Exist)

module _ (c : Scope) (q : Qual) where
  row_parts-items : {n : _} (row : Row_of-Ty n) → IsRowOfParts c q row ≡ AreParts c q (items-the_row-Ty _ row)
  row_parts-items end_of-Ty = refl
  row_parts-items (more_of-Ty t ts) = ap (λ (P : Type 0). IsWellFormed c t × IsAtMost (qual_under c t) q × P) (row_parts-items ts)

  row_parts-hidden : (ts : List Ty) → IsRowOfParts c q (hidden-the_row-Ty-1 ts) ≡ AreParts c q ts
  row_parts-hidden ts = row_parts-items (hidden-the_row-Ty-1 ts) ∙ ap (AreParts c q) (items_hidden-the_row-Ty-1 ts)

  pub form-Tuple : (ts : List Ty) → IsWellFormedPre c q (Tuple ts) ≡ AreParts c q ts
  form-Tuple ts = row_parts-hidden ts

  pub form-Hidden : (m : Mem) (t : Ty) → IsWellFormedPre c q (Hidden m t) ≡ IsPart (with_location m c) q t
  unfolding hidden-the_row-Ty-2 denote.Hole.Carrier.hidden
  form-Hidden m t = refl

  pub form-Rec : (s : ℕ) (t : Ty) → IsWellFormed c (Rec q s t) ≡ ((s ≤ most_words) × IsWellFormed (with_variable q s c) t × IsBodyOf q s (with_variable q s c) t)
  unfolding hidden-the_row-Ty-2 denote.Hole.Carrier.hidden
  form-Rec s t = refl

pub form-Code : (c : Scope) (q : Qual) (g : FunType) → IsWellFormedPre c q (Code g) ≡ IsWellFormedFunction c g
unfolding hidden-the_row-FunType-3 hidden-the_row-Ty-1 denote.Hole.Carrier.hidden
form-Code c q g =
    ap (λ (P : Type 0). P × IsRowOfParts (within g.binders c) Lin (hidden-the_row-Ty-1 g.results)) (row_parts-hidden (within g.binders c) Lin g.params)
    ∙ ap (λ (P : Type 0). AreParts (within g.binders c) Lin g.params × P) (row_parts-hidden (within g.binders c) Lin g.results)

row_slots-items : (c : Scope) {n : _} (row : Row_of-Slot n) → IsRowOfSlots c row ≡ AreSlots c (items-the_row-Slot _ row)
row_slots-items c end_of-Slot = refl
row_slots-items c (more_of-Slot t s ss) = ap (λ (P : Type 0). IsWellFormed c t × (size_under c t ≤ s) × P) (row_slots-items c ss)

module _ (c : Scope) (m : Mem) where
  pub form-Struct : (ss : List Slot) → IsWellFormedHeap c m (Struct ss) ≡ ((slot_words ss ≤ most_words) × AreSlots c ss)
  form-Struct ss =
      ap (λ (P : Type 0). (heap_words c (Struct ss) ≤ most_words) × P) (row_slots-items c (hidden-the_row-Slot-0 ss) ∙ ap (AreSlots c) (items_hidden-the_row-Slot-0 ss))
      ∙ ap (λ (n : ℕ). (n ≤ most_words) × AreSlots c ss) (words-Struct c ss)

  pub form-Variant : (ts : List Ty) → IsWellFormedHeap c m (Variant ts) ≡ ((1 + list_greatest c ts ≤ most_words) × AreParts c (content_qual m) ts)
  form-Variant ts =
      ap (λ (P : Type 0). (heap_words c (Variant ts) ≤ most_words) × P) (row_parts-hidden c (content_qual m) ts)
      ∙ ap (λ (n : ℕ). (n ≤ most_words) × AreParts c (content_qual m) ts) (words-Variant c ts)

  pub form-Array : (t : Ty) → IsWellFormedHeap c m (Array t) ≡ ((1 + size_under c t ≤ most_words) × IsWellFormed c t × IsAtMost (qual_under c t) Unr)
  unfolding hidden-the_row-Ty-2 denote.Hole.Carrier.hidden
  form-Array t = refl

  pub form-Exist : (q : Qual) (s : ℕ) (t : Ty) → IsWellFormedHeap c m (Exist q s t) ≡ ((size_under (with_variable q s c) t ≤ most_words) × IsWellFormed (with_variable q s c) t × IsAtMost (qual_under (with_variable q s c) t) (content_qual m))
  unfolding hidden-the_row-Ty-2 denote.Hole.Carrier.hidden
  form-Exist q s t = refl

pub ruleset forms = (form-Rec, form-Tuple, form-Hidden, form-Code, form-Struct, form-Variant, form-Array, form-Exist)
