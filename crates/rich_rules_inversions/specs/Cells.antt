-- What holds where a row on cells or rights breaks no rule: the forms of what it takes, its conditions, and what it gives. This
-- project's own.
use Rattle.std.specs.Prelude.{◌≡◌, ◌≤◌, ℕ, List, [], ◌∷◌, None, Some, IsFalse, IsTrue, ⊤, drop, length, reverse, slice_get, take}
use Rattle.rw_types.specs.declared.types.Arg.TheVariants.{Given}
use Rattle.rw_types.specs.declared.types.Heap.{Heap}
use Rattle.rw_types.specs.declared.types.Heap.TheVariants.{Array, Exist, Struct, Variant}
use Rattle.rw_types.specs.declared.types.Mem.{Mem}
use Rattle.rw_types.specs.declared.types.Mem.TheVariants.{L}
use Rattle.rw_types.specs.declared.types.Pre.{Cap, Own, Ptr, Ref}
use Rattle.rw_types.specs.declared.types.Priv.{Priv}
use Rattle.rw_types.specs.declared.types.Priv.TheVariants.{R, Rw}
use Rattle.rw_types.specs.declared.types.Qual.{Qual}
use Rattle.rw_types.specs.declared.types.Qual.TheVariants.{Lin, Unr}
use Rattle.rw_types.specs.declared.types.Slot.{Slot}
use Rattle.rw_types.specs.declared.types.Ty.{Of, Ty}
use Rattle.rich_types.specs.Scopes.{Scope, memory_of, with_variable}
use Rattle.rich_types.specs.Sizes.{size_under}
use Rattle.rich_types.specs.Instances.{instance, raise}
use Rattle.rich_rules.specs.Forms.{first_ill_formed, fits, has_qual, is_formed, is_unr, is_unr_type}
use Rattle.rich_rules.specs.Points.{Breaks, Outcome}
use Rattle.rich_rules.specs.Raised.{one_location, raise_all}
use Rattle.rich_rules.specs.Takers.{Reference, first_held, gives, unr_i32}
use Rattle.rich_rules.specs.Rights.{cap_join_row, cap_split_row, ref_join_row, ref_split_row}
use Rattle.rich_rules.specs.Structs.{first_larger, new_cell, ref_with, slot_types, slots_of, struct_free_row, struct_get_row, struct_malloc_row, struct_set_row, struct_swap_row}
use Rattle.rich_rules.specs.Cells.{array_free_row, array_get_row, array_len_row, array_malloc_row, array_set_row, exist_pack_row, variant_malloc_row}

-- no rule is broken
abbrev pub Goes : Outcome → Type 0
Goes (Breaks b) = ⊥
Goes _ = ⊤

-- a type is a reference to this in a location that has a binder, of which so much is told
pub record IsReference (c : Scope) (t : Ty) (r : Reference) (h : Heap) : Type 0 where
  pub form : t ≡ Of r.qual (Ref r.privilege r.location h)
  pub memory : memory_of c r.location ≡ Some r.memory

-- a capability that is not `unr`
pub record IsCapability (t : Ty) (p : Priv) (l : ℕ) (h : Heap) : Type 0 where
  pub qual : Qual
  pub form : t ≡ Of qual (Cap p l h)
  pub held : IsFalse (is_unr qual)

-- what a slot takes
abbrev pub SlotTakes : Scope → Mem → Slot → Ty → Type 0
SlotTakes c L s t = IsTrue (fits c s.size t)
SlotTakes c _ s t = t ≡ s.ty

pub record SplitsReference (c : Scope) (operands : List Ty) (o : Outcome) : Type 0 where
  pub beneath : List Ty
  pub qual : Qual
  pub privilege : Priv
  pub location : ℕ
  pub content : Heap
  pub taken : operands ≡ Of qual (Ref privilege location content) ∷ beneath
  pub held : IsFalse (is_unr qual)
  pub memory : memory_of c location ≡ Some L
  pub given : o ≡ gives (Of Unr (Ptr location) ∷ Of Lin (Cap privilege location content) ∷ []) beneath

pub record JoinsReference (operands : List Ty) (o : Outcome) : Type 0 where
  pub beneath : List Ty
  pub first : Ty
  pub privilege : Priv
  pub location : ℕ
  pub content : Heap
  pub qual : Qual
  pub taken : operands ≡ Of qual (Ptr location) ∷ first ∷ beneath
  pub unrestricted : IsTrue (is_unr qual)
  pub capability : IsCapability first privilege location content
  pub given : o ≡ gives (Of Lin (Ref privilege location content) ∷ []) beneath

pub record SplitsCapability (operands : List Ty) (o : Outcome) : Type 0 where
  pub beneath : List Ty
  pub first : Ty
  pub location : ℕ
  pub content : Heap
  pub taken : operands ≡ first ∷ beneath
  pub capability : IsCapability first Rw location content
  pub given : o ≡ gives (Of Lin (Own location) ∷ Of Lin (Cap R location content) ∷ []) beneath

pub record JoinsCapability (operands : List Ty) (o : Outcome) : Type 0 where
  pub beneath : List Ty
  pub first : Ty
  pub location : ℕ
  pub content : Heap
  pub qual : Qual
  pub taken : operands ≡ Of qual (Own location) ∷ first ∷ beneath
  pub held : IsFalse (is_unr qual)
  pub capability : IsCapability first R location content
  pub given : o ≡ gives (Of Lin (Cap Rw location content) ∷ []) beneath

pub record MakesStruct (c : Scope) (m : Mem) (sizes : List ℕ) (operands : List Ty) (o : Outcome) : Type 0 where
  pub enough : length sizes ≤ length operands
  pub fit : first_larger c (reverse (take (length sizes) operands)) sizes ≡ None
  pub formed : IsTrue (is_formed c (new_cell m (Struct (slots_of (raise_all one_location (reverse (take (length sizes) operands))) sizes))))
  pub given : o ≡ gives (new_cell m (Struct (slots_of (raise_all one_location (reverse (take (length sizes) operands))) sizes)) ∷ []) (drop (length sizes) operands)

pub record FreesStruct (c : Scope) (operands : List Ty) (o : Outcome) : Type 0 where
  pub beneath : List Ty
  pub first : Ty
  pub reference : Reference
  pub slots : List Slot
  pub taken : operands ≡ first ∷ beneath
  pub form : IsReference c first reference (Struct slots)
  pub memory : reference.memory ≡ L
  pub privilege : reference.privilege ≡ Rw
  pub unrestricted : first_held c (slot_types slots) ≡ None
  pub given : o ≡ gives [] beneath

pub record GetsSlot (c : Scope) (i : ℕ) (operands : List Ty) (o : Outcome) : Type 0 where
  pub beneath : List Ty
  pub first : Ty
  pub reference : Reference
  pub slots : List Slot
  pub slot : Slot
  pub taken : operands ≡ first ∷ beneath
  pub form : IsReference c first reference (Struct slots)
  pub found : slice_get slots i ≡ Some slot
  pub unrestricted : IsTrue (is_unr_type c slot.ty)
  pub given : o ≡ gives (slot.ty ∷ first ∷ []) beneath

pub record SetsSlot (c : Scope) (i : ℕ) (operands : List Ty) (o : Outcome) : Type 0 where
  pub beneath : List Ty
  pub value : Ty
  pub first : Ty
  pub reference : Reference
  pub slots : List Slot
  pub slot : Slot
  pub taken : operands ≡ value ∷ first ∷ beneath
  pub form : IsReference c first reference (Struct slots)
  pub privilege : reference.privilege ≡ Rw
  pub found : slice_get slots i ≡ Some slot
  pub unrestricted : IsTrue (is_unr_type c slot.ty)
  pub takes : SlotTakes c reference.memory slot value
  pub given : o ≡ gives (ref_with reference slots i slot value ∷ []) beneath

pub record SwapsSlot (c : Scope) (i : ℕ) (operands : List Ty) (o : Outcome) : Type 0 where
  pub beneath : List Ty
  pub value : Ty
  pub first : Ty
  pub reference : Reference
  pub slots : List Slot
  pub slot : Slot
  pub taken : operands ≡ value ∷ first ∷ beneath
  pub form : IsReference c first reference (Struct slots)
  pub privilege : reference.privilege ≡ Rw
  pub found : slice_get slots i ≡ Some slot
  pub takes : SlotTakes c reference.memory slot value
  pub given : o ≡ gives (slot.ty ∷ ref_with reference slots i slot value ∷ []) beneath

pub record MakesVariant (c : Scope) (m : Mem) (i : ℕ) (ts operands : List Ty) (o : Outcome) : Type 0 where
  pub beneath : List Ty
  pub value : Ty
  pub found : slice_get ts i ≡ Some value
  pub written : first_ill_formed c ts ≡ None
  pub taken : operands ≡ value ∷ beneath
  pub formed : IsTrue (is_formed c (new_cell m (Variant (raise_all one_location ts))))
  pub given : o ≡ gives (new_cell m (Variant (raise_all one_location ts)) ∷ []) beneath

pub record MakesArray (c : Scope) (m : Mem) (operands : List Ty) (o : Outcome) : Type 0 where
  pub beneath : List Ty
  pub value : Ty
  pub taken : operands ≡ unr_i32 ∷ value ∷ beneath
  pub unrestricted : IsTrue (is_unr_type c value)
  pub formed : IsTrue (is_formed c (new_cell m (Array (raise one_location value))))
  pub given : o ≡ gives (new_cell m (Array (raise one_location value)) ∷ []) beneath

pub record GetsElement (c : Scope) (operands : List Ty) (o : Outcome) : Type 0 where
  pub beneath : List Ty
  pub first : Ty
  pub reference : Reference
  pub element : Ty
  pub taken : operands ≡ unr_i32 ∷ first ∷ beneath
  pub form : IsReference c first reference (Array element)
  pub given : o ≡ gives (element ∷ first ∷ []) beneath

pub record SetsElement (c : Scope) (operands : List Ty) (o : Outcome) : Type 0 where
  pub beneath : List Ty
  pub first : Ty
  pub reference : Reference
  pub element : Ty
  pub taken : operands ≡ element ∷ unr_i32 ∷ first ∷ beneath
  pub form : IsReference c first reference (Array element)
  pub privilege : reference.privilege ≡ Rw
  pub given : o ≡ gives (first ∷ []) beneath

pub record GetsLength (c : Scope) (operands : List Ty) (o : Outcome) : Type 0 where
  pub beneath : List Ty
  pub first : Ty
  pub reference : Reference
  pub element : Ty
  pub taken : operands ≡ first ∷ beneath
  pub form : IsReference c first reference (Array element)
  pub given : o ≡ gives (unr_i32 ∷ first ∷ []) beneath

pub record FreesArray (c : Scope) (operands : List Ty) (o : Outcome) : Type 0 where
  pub beneath : List Ty
  pub first : Ty
  pub reference : Reference
  pub element : Ty
  pub taken : operands ≡ first ∷ beneath
  pub form : IsReference c first reference (Array element)
  pub memory : reference.memory ≡ L
  pub privilege : reference.privilege ≡ Rw
  pub given : o ≡ gives [] beneath

pub record MakesPackage (c : Scope) (m : Mem) (q : Qual) (s : ℕ) (t body : Ty) (operands : List Ty) (o : Outcome) : Type 0 where
  pub beneath : List Ty
  pub written : IsTrue (is_formed c t)
  pub written_body : IsTrue (is_formed (with_variable q s c) body)
  pub qual : IsTrue (has_qual c q t)
  pub size : size_under c t ≡ s
  pub taken : operands ≡ instance body (Given t ∷ []) ∷ beneath
  pub formed : IsTrue (is_formed c (new_cell m (Exist q s (raise one_location body))))
  pub given : o ≡ gives (new_cell m (Exist q s (raise one_location body)) ∷ []) beneath

-- each row on rights and on cells that enters no list
pub record CellRowsInverted : Type 0 where
  pub ref_split : (c : Scope) (operands : List Ty) (o : Outcome) → ref_split_row c operands ≡ o → Goes o → SplitsReference c operands o
  pub ref_join : (operands : List Ty) (o : Outcome) → ref_join_row operands ≡ o → Goes o → JoinsReference operands o
  pub cap_split : (operands : List Ty) (o : Outcome) → cap_split_row operands ≡ o → Goes o → SplitsCapability operands o
  pub cap_join : (operands : List Ty) (o : Outcome) → cap_join_row operands ≡ o → Goes o → JoinsCapability operands o
  pub struct_malloc : (c : Scope) (m : Mem) (sizes : List ℕ) (operands : List Ty) (o : Outcome) → struct_malloc_row c m sizes operands ≡ o → Goes o → MakesStruct c m sizes operands o
  pub struct_free : (c : Scope) (operands : List Ty) (o : Outcome) → struct_free_row c operands ≡ o → Goes o → FreesStruct c operands o
  pub struct_get : (c : Scope) (i : ℕ) (operands : List Ty) (o : Outcome) → struct_get_row c i operands ≡ o → Goes o → GetsSlot c i operands o
  pub struct_set : (c : Scope) (i : ℕ) (operands : List Ty) (o : Outcome) → struct_set_row c i operands ≡ o → Goes o → SetsSlot c i operands o
  pub struct_swap : (c : Scope) (i : ℕ) (operands : List Ty) (o : Outcome) → struct_swap_row c i operands ≡ o → Goes o → SwapsSlot c i operands o
  pub variant_malloc : (c : Scope) (m : Mem) (i : ℕ) (ts operands : List Ty) (o : Outcome) → variant_malloc_row c m i ts operands ≡ o → Goes o → MakesVariant c m i ts operands o
  pub array_malloc : (c : Scope) (m : Mem) (operands : List Ty) (o : Outcome) → array_malloc_row c m operands ≡ o → Goes o → MakesArray c m operands o
  pub array_get : (c : Scope) (operands : List Ty) (o : Outcome) → array_get_row c operands ≡ o → Goes o → GetsElement c operands o
  pub array_set : (c : Scope) (operands : List Ty) (o : Outcome) → array_set_row c operands ≡ o → Goes o → SetsElement c operands o
  pub array_len : (c : Scope) (operands : List Ty) (o : Outcome) → array_len_row c operands ≡ o → Goes o → GetsLength c operands o
  pub array_free : (c : Scope) (operands : List Ty) (o : Outcome) → array_free_row c operands ≡ o → Goes o → FreesArray c operands o
  pub exist_pack : (c : Scope) (m : Mem) (q : Qual) (s : ℕ) (t body : Ty) (operands : List Ty) (o : Outcome) → exist_pack_row c m q s t body operands ≡ o → Goes o → MakesPackage c m q s t body operands o
