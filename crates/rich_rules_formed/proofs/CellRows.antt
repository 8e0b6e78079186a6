-- What rows on rights and on cells make of a point whose types are well formed.
use Rattle.std.proofs.Common.{ℕ, List, [], ◌∷◌, refl, take, drop, length, reverse}
use Rattle.rw_types.specs.declared.types.Arg.TheVariants.{Given}
use Rattle.rw_types.specs.declared.types.Heap.TheVariants.{Array, Exist, Struct, Variant}
use Rattle.rw_types.specs.declared.types.Mem.{Mem}
use Rattle.rw_types.specs.declared.types.Mem.TheVariants.{L}
use Rattle.rw_types.specs.declared.types.Pre.{Cap, Own, Ptr, Ref}
use Rattle.rw_types.specs.declared.types.Priv.TheVariants.{R, Rw}
use Rattle.rw_types.specs.declared.types.Qual.{Qual}
use Rattle.rw_types.specs.declared.types.Qual.TheVariants.{Lin, Unr}
use Rattle.rw_types.specs.declared.types.Ty.{Of, Ty}
use Rattle.rich_types.specs.Scopes.{scope_of}
use Rattle.rich_types.specs.Instances.{instance, raise}
use Rattle.rich_rules.specs.Points.{Point}
use Rattle.rich_rules.specs.Raised.{one_location, raise_all}
use Rattle.rich_rules.specs.Takers.{unr_i32}
use Rattle.rich_rules.specs.Rights.{cap_join_row, cap_split_row, ref_join_row, ref_split_row}
use Rattle.rich_rules.specs.Structs.{new_cell, ref_with, slots_of, struct_free_row, struct_get_row, struct_malloc_row, struct_set_row, struct_swap_row}
use Rattle.rich_rules.specs.Cells.{array_free_row, array_get_row, array_len_row, array_malloc_row, array_set_row, exist_pack_row, variant_malloc_row}
use Rattle.rich_rules_laws.proofs.Formed.{formed-true}
use Rattle.rich_rules_inversions.proofs.Cells.{rows}
use Rattle.rich_rules_formed.specs.Formed.{IsFormedPoint, IsFormedOutcome}
use Rattle.rich_rules_formed.proofs.Lists.{alone, dropped, more}
use Rattle.rich_rules_formed.proofs.Forms.{capability_formed, capability_parts, element_formed, i32_formed, linear_formed, own_formed, pointer_formed, reference_parts, referred, set_formed, slot_formed}
use Rattle.rich_rules_formed.proofs.Outcomes.{answered, settled}
use Rattle.rich_rules_formed.proofs.BodyRows.{second, top}

module _ (p : Point) (w : IsFormedPoint p) where
  pub row_ref_split : IsFormedOutcome p (ref_split_row (scope_of p.binders) p.operands)
  row_ref_split = settled p (ref_split_row (scope_of p.binders) p.operands) (λ go. (
      let x = rows.ref_split (scope_of p.binders) p.operands (ref_split_row (scope_of p.binders) p.operands) refl go in
      let y = top p w (Of x.qual (Ref x.privilege x.location x.content)) x.beneath x.taken in
      let h = referred (scope_of p.binders) x.qual x.privilege x.location x.content L x.memory y.0 in
      let cap = Of Lin (Cap x.privilege x.location x.content) in
      answered p w (ref_split_row (scope_of p.binders) p.operands) (Of Unr (Ptr x.location) ∷ cap ∷ []) x.beneath x.given (more (scope_of p.binders) (Of Unr (Ptr x.location)) (cap ∷ []) (pointer_formed (scope_of p.binders) x.location x.memory) (alone (scope_of p.binders) cap (capability_formed (scope_of p.binders) x.privilege x.location x.content x.memory h.1))) y.1))

  pub row_ref_join : IsFormedOutcome p (ref_join_row p.operands)
  row_ref_join = settled p (ref_join_row p.operands) (λ go. (
      let x = rows.ref_join p.operands (ref_join_row p.operands) refl go in
      let y = second p w (Of x.qual (Ptr x.location)) x.first x.beneath x.taken in
      let h = capability_parts (scope_of p.binders) x.first x.privilege x.location x.content x.capability y.1 in
      let t = Of Lin (Ref x.privilege x.location x.content) in
      answered p w (ref_join_row p.operands) (t ∷ []) x.beneath x.given (alone (scope_of p.binders) t (linear_formed (scope_of p.binders) x.privilege x.location x.content h.0 h.1)) y.2))

  pub row_cap_split : IsFormedOutcome p (cap_split_row p.operands)
  row_cap_split = settled p (cap_split_row p.operands) (λ go. (
      let x = rows.cap_split p.operands (cap_split_row p.operands) refl go in
      let y = top p w x.first x.beneath x.taken in
      let h = capability_parts (scope_of p.binders) x.first Rw x.location x.content x.capability y.0 in
      let cap = Of Lin (Cap R x.location x.content) in
      answered p w (cap_split_row p.operands) (Of Lin (Own x.location) ∷ cap ∷ []) x.beneath x.given (more (scope_of p.binders) (Of Lin (Own x.location)) (cap ∷ []) (own_formed (scope_of p.binders) x.location h.0) (alone (scope_of p.binders) cap (capability_formed (scope_of p.binders) R x.location x.content h.0 h.1))) y.1))

  pub row_cap_join : IsFormedOutcome p (cap_join_row p.operands)
  row_cap_join = settled p (cap_join_row p.operands) (λ go. (
      let x = rows.cap_join p.operands (cap_join_row p.operands) refl go in
      let y = second p w (Of x.qual (Own x.location)) x.first x.beneath x.taken in
      let h = capability_parts (scope_of p.binders) x.first R x.location x.content x.capability y.1 in
      let t = Of Lin (Cap Rw x.location x.content) in
      answered p w (cap_join_row p.operands) (t ∷ []) x.beneath x.given (alone (scope_of p.binders) t (capability_formed (scope_of p.binders) Rw x.location x.content h.0 h.1)) y.2))

  pub row_struct_malloc : (m : Mem) → (sizes : List ℕ) → IsFormedOutcome p (struct_malloc_row (scope_of p.binders) m sizes p.operands)
  row_struct_malloc m sizes = settled p (struct_malloc_row (scope_of p.binders) m sizes p.operands) (λ go. (
      let x = rows.struct_malloc (scope_of p.binders) m sizes p.operands (struct_malloc_row (scope_of p.binders) m sizes p.operands) refl go in
      let t = new_cell m (Struct (slots_of (raise_all one_location (reverse (take (length sizes) p.operands))) sizes)) in
      answered p w (struct_malloc_row (scope_of p.binders) m sizes p.operands) (t ∷ []) (drop (length sizes) p.operands) x.given (alone (scope_of p.binders) t (formed-true (scope_of p.binders) t x.formed)) (dropped (scope_of p.binders) (length sizes) p.operands w.operands)))

  pub row_struct_free : IsFormedOutcome p (struct_free_row (scope_of p.binders) p.operands)
  row_struct_free = settled p (struct_free_row (scope_of p.binders) p.operands) (λ go. (
      let x = rows.struct_free (scope_of p.binders) p.operands (struct_free_row (scope_of p.binders) p.operands) refl go in
      answered p w (struct_free_row (scope_of p.binders) p.operands) [] x.beneath x.given tt (top p w x.first x.beneath x.taken).1))

  pub row_array_free : IsFormedOutcome p (array_free_row (scope_of p.binders) p.operands)
  row_array_free = settled p (array_free_row (scope_of p.binders) p.operands) (λ go. (
      let x = rows.array_free (scope_of p.binders) p.operands (array_free_row (scope_of p.binders) p.operands) refl go in
      answered p w (array_free_row (scope_of p.binders) p.operands) [] x.beneath x.given tt (top p w x.first x.beneath x.taken).1))

  pub row_struct_get : (i : ℕ) → IsFormedOutcome p (struct_get_row (scope_of p.binders) i p.operands)
  row_struct_get i = settled p (struct_get_row (scope_of p.binders) i p.operands) (λ go. (
      let x = rows.struct_get (scope_of p.binders) i p.operands (struct_get_row (scope_of p.binders) i p.operands) refl go in
      let y = top p w x.first x.beneath x.taken in
      let h = reference_parts (scope_of p.binders) x.first x.reference (Struct x.slots) x.form y.0 in
      let s = slot_formed (scope_of p.binders) x.reference.memory x.slots i x.slot h.1 x.found in
      answered p w (struct_get_row (scope_of p.binders) i p.operands) (x.slot.ty ∷ x.first ∷ []) x.beneath x.given (more (scope_of p.binders) x.slot.ty (x.first ∷ []) s.0 (alone (scope_of p.binders) x.first y.0)) y.1))

  pub row_struct_set : (i : ℕ) → IsFormedOutcome p (struct_set_row (scope_of p.binders) i p.operands)
  row_struct_set i = settled p (struct_set_row (scope_of p.binders) i p.operands) (λ go. (
      let x = rows.struct_set (scope_of p.binders) i p.operands (struct_set_row (scope_of p.binders) i p.operands) refl go in
      let y = second p w x.value x.first x.beneath x.taken in
      let t = ref_with x.reference x.slots i x.slot x.value in
      answered p w (struct_set_row (scope_of p.binders) i p.operands) (t ∷ []) x.beneath x.given (alone (scope_of p.binders) t (set_formed (scope_of p.binders) x.first x.reference x.slots i x.slot x.value x.form y.1 x.found x.takes y.0)) y.2))

  pub row_struct_swap : (i : ℕ) → IsFormedOutcome p (struct_swap_row (scope_of p.binders) i p.operands)
  row_struct_swap i = settled p (struct_swap_row (scope_of p.binders) i p.operands) (λ go. (
      let x = rows.struct_swap (scope_of p.binders) i p.operands (struct_swap_row (scope_of p.binders) i p.operands) refl go in
      let y = second p w x.value x.first x.beneath x.taken in
      let t = ref_with x.reference x.slots i x.slot x.value in
      let h = reference_parts (scope_of p.binders) x.first x.reference (Struct x.slots) x.form y.1 in
      let s = slot_formed (scope_of p.binders) x.reference.memory x.slots i x.slot h.1 x.found in
      answered p w (struct_swap_row (scope_of p.binders) i p.operands) (x.slot.ty ∷ t ∷ []) x.beneath x.given (more (scope_of p.binders) x.slot.ty (t ∷ []) s.0 (alone (scope_of p.binders) t (set_formed (scope_of p.binders) x.first x.reference x.slots i x.slot x.value x.form y.1 x.found x.takes y.0))) y.2))

  pub row_variant_malloc : (m : Mem) → (i : ℕ) → (ts : List Ty) → IsFormedOutcome p (variant_malloc_row (scope_of p.binders) m i ts p.operands)
  row_variant_malloc m i ts = settled p (variant_malloc_row (scope_of p.binders) m i ts p.operands) (λ go. (
      let x = rows.variant_malloc (scope_of p.binders) m i ts p.operands (variant_malloc_row (scope_of p.binders) m i ts p.operands) refl go in
      let t = new_cell m (Variant (raise_all one_location ts)) in
      answered p w (variant_malloc_row (scope_of p.binders) m i ts p.operands) (t ∷ []) x.beneath x.given (alone (scope_of p.binders) t (formed-true (scope_of p.binders) t x.formed)) (top p w x.value x.beneath x.taken).1))

  pub row_array_malloc : (m : Mem) → IsFormedOutcome p (array_malloc_row (scope_of p.binders) m p.operands)
  row_array_malloc m = settled p (array_malloc_row (scope_of p.binders) m p.operands) (λ go. (
      let x = rows.array_malloc (scope_of p.binders) m p.operands (array_malloc_row (scope_of p.binders) m p.operands) refl go in
      let t = new_cell m (Array (raise one_location x.value)) in
      answered p w (array_malloc_row (scope_of p.binders) m p.operands) (t ∷ []) x.beneath x.given (alone (scope_of p.binders) t (formed-true (scope_of p.binders) t x.formed)) (second p w unr_i32 x.value x.beneath x.taken).2))

  pub row_array_get : IsFormedOutcome p (array_get_row (scope_of p.binders) p.operands)
  row_array_get = settled p (array_get_row (scope_of p.binders) p.operands) (λ go. (
      let x = rows.array_get (scope_of p.binders) p.operands (array_get_row (scope_of p.binders) p.operands) refl go in
      let y = second p w unr_i32 x.first x.beneath x.taken in
      let h = reference_parts (scope_of p.binders) x.first x.reference (Array x.element) x.form y.1 in
      answered p w (array_get_row (scope_of p.binders) p.operands) (x.element ∷ x.first ∷ []) x.beneath x.given (more (scope_of p.binders) x.element (x.first ∷ []) (element_formed (scope_of p.binders) x.reference.memory x.element h.1) (alone (scope_of p.binders) x.first y.1)) y.2))

  pub row_array_set : IsFormedOutcome p (array_set_row (scope_of p.binders) p.operands)
  row_array_set = settled p (array_set_row (scope_of p.binders) p.operands) (λ go. (
      let x = rows.array_set (scope_of p.binders) p.operands (array_set_row (scope_of p.binders) p.operands) refl go in
      let y = second p w x.element unr_i32 (x.first ∷ x.beneath) x.taken in
      answered p w (array_set_row (scope_of p.binders) p.operands) (x.first ∷ []) x.beneath x.given (alone (scope_of p.binders) x.first y.2.0) y.2.2))

  pub row_array_len : IsFormedOutcome p (array_len_row (scope_of p.binders) p.operands)
  row_array_len = settled p (array_len_row (scope_of p.binders) p.operands) (λ go. (
      let x = rows.array_len (scope_of p.binders) p.operands (array_len_row (scope_of p.binders) p.operands) refl go in
      let y = top p w x.first x.beneath x.taken in
      answered p w (array_len_row (scope_of p.binders) p.operands) (unr_i32 ∷ x.first ∷ []) x.beneath x.given (more (scope_of p.binders) unr_i32 (x.first ∷ []) (i32_formed (scope_of p.binders)) (alone (scope_of p.binders) x.first y.0)) y.1))

  pub row_exist_pack : (m : Mem) → (q : Qual) → (s : ℕ) → (t body : Ty) → IsFormedOutcome p (exist_pack_row (scope_of p.binders) m q s t body p.operands)
  row_exist_pack m q s t body = settled p (exist_pack_row (scope_of p.binders) m q s t body p.operands) (λ go. (
      let x = rows.exist_pack (scope_of p.binders) m q s t body p.operands (exist_pack_row (scope_of p.binders) m q s t body p.operands) refl go in
      let u = new_cell m (Exist q s (raise one_location body)) in
      answered p w (exist_pack_row (scope_of p.binders) m q s t body p.operands) (u ∷ []) x.beneath x.given (alone (scope_of p.binders) u (formed-true (scope_of p.binders) u x.formed)) (top p w (instance body (Given t ∷ [])) x.beneath x.taken).1))
