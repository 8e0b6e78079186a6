-- Rows on structs, and new cells. This project's own.
use Rattle.std.specs.Prelude.{ℕ, List, [], ◌∷◌, if◌then◌else◌, Option, Some, None, length, reverse, slice_get, slice_set}
use Rattle.rw_types.specs.declared.types.Heap.{Heap}
use Rattle.rw_types.specs.declared.types.Heap.TheVariants.{Struct}
use Rattle.rw_types.specs.declared.types.Mem.{Mem}
use Rattle.rw_types.specs.declared.types.Mem.TheVariants.{L, U}
use Rattle.rw_types.specs.declared.types.Pre.{Ref}
use Rattle.rw_types.specs.declared.types.Pre.TheVariants.{Hidden}
use Rattle.rw_types.specs.declared.types.Priv.TheVariants.{Rw}
use Rattle.rw_types.specs.declared.types.Qual.{Qual}
use Rattle.rw_types.specs.declared.types.Qual.TheVariants.{Unr, Lin}
use Rattle.rw_types.specs.declared.types.Slot.{Slot}
use Rattle.rw_types.specs.declared.types.Ty.{Ty, Of}
use Rattle.rich_types.specs.Scopes.{Scope}
use Rattle.rich_typing.specs.declared.rules.Rule.TheVariants as rule
use Rattle.rich_rules.specs.Equality.{same}
use Rattle.rich_rules.specs.Forms.{is_rw, is_linear_memory, is_unr_type, fits}
use Rattle.rich_rules.specs.Points.{Outcome}
use Rattle.rich_rules.specs.Raised.{one_location, raise_all}
use Rattle.rich_rules.specs.Takers.{Reference, need, with_some, without, first_held, one, two, taking, struct_form, gives, gives_formed}

-- the qualifier of what is made in a memory
abbrev pub qual_of_new : Mem → Qual
qual_of_new L = Lin
qual_of_new U = Unr

-- a hidden location of this memory, and the reference to it: the type of a new cell
abbrev pub new_cell : Mem → Heap → Ty
new_cell m h = Of (qual_of_new m) (Hidden m (Of (qual_of_new m) (Ref Rw 0 h)))

-- the first type that is larger than its slot
abbrev pub first_larger : Scope → List Ty → List ℕ → Option Ty
first_larger c (t ∷ ts) (s ∷ ss) = if fits c s t then first_larger c ts ss else Some t
first_larger c _ _ = None

-- slots of these types and words
abbrev pub slots_of : List Ty → List ℕ → List Slot
slots_of (t ∷ ts) (s ∷ ss) = record { ty = t; size = s } ∷ slots_of ts ss
slots_of _ _ = []

-- the types of slots
abbrev pub slot_types : List Slot → List Ty
slot_types [] = []
slot_types (s ∷ ss) = s.ty ∷ slot_types ss

-- `struct.malloc` makes a struct of as many operands as sizes of slots
abbrev pub struct_malloc_row : Scope → Mem → List ℕ → List Ty → Outcome
struct_malloc_row c m sizes operands = taking (length sizes) operands (λ taken beneath. without (first_larger c (reverse taken) sizes) rule.SlotSize (gives_formed c (new_cell m (Struct (slots_of (raise_all one_location (reverse taken)) sizes))) beneath))

-- `struct.free`
abbrev pub struct_free_row : Scope → List Ty → Outcome
struct_free_row c operands = one operands (λ t beneath. struct_form c t (λ r slots. need (is_linear_memory r.memory) rule.Memory (Some t) None (need (is_rw r.privilege) rule.Privilege (Some t) None (without (first_held c (slot_types slots)) rule.LinearDrop (gives [] beneath)))))

-- `struct.get` copies what is `unr`
abbrev pub struct_get_row : Scope → ℕ → List Ty → Outcome
struct_get_row c i operands = one operands (λ t beneath. struct_form c t (λ r slots. with_some (slice_get slots i) rule.Slot (Some t) (λ s. need (is_unr_type c s.ty) rule.LinearCopy (Some s.ty) None (gives (s.ty ∷ t ∷ []) beneath))))

-- what a slot demands of a new value: in the linear memory that it is not larger than the slot, in the other that it
-- has the slot's type
abbrev pub slot_takes : Scope → Mem → Slot → Ty → Outcome → Outcome
slot_takes c L s t rest = need (fits c s.size t) rule.SlotSize (Some t) None rest
slot_takes c U s t rest = need (same t s.ty) rule.SlotType (Some t) (Some s.ty) rest

-- the reference to a struct whose slot has another type
abbrev pub ref_with : Reference → List Slot → ℕ → Slot → Ty → Ty
ref_with r slots i s t = Of r.qual (Ref r.privilege r.location (Struct (slice_set slots i (record { ty = t; size = s.size }))))

-- `struct.set` puts a value in the place of one that is `unr`
abbrev pub struct_set_row : Scope → ℕ → List Ty → Outcome
struct_set_row c i operands = two operands (λ u t beneath. struct_form c t (λ r slots. need (is_rw r.privilege) rule.Privilege (Some t) None (with_some (slice_get slots i) rule.Slot (Some t) (λ s. need (is_unr_type c s.ty) rule.LinearDrop (Some s.ty) None (slot_takes c r.memory s u (gives (ref_with r slots i s u ∷ []) beneath))))))

-- `struct.swap` gives the old value
abbrev pub struct_swap_row : Scope → ℕ → List Ty → Outcome
struct_swap_row c i operands = two operands (λ u t beneath. struct_form c t (λ r slots. need (is_rw r.privilege) rule.Privilege (Some t) None (with_some (slice_get slots i) rule.Slot (Some t) (λ s. slot_takes c r.memory s u (gives (s.ty ∷ ref_with r slots i s u ∷ []) beneath)))))
