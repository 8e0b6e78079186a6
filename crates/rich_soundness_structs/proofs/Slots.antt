-- Slots of structs, by their types.
use Rattle.std.proofs.Common.{◌≡◌, ℕ, zero, suc, List, [], ◌∷◌, length, Option, Some, None, Bool, true, false, if◌then◌else◌, refl, sym, ap, ◌∙◌, subst, arith}
use Rattle.std.specs.Prelude.{slice_get, slice_set, IsTrue}
use Rattle.rw_types.specs.declared.types.Heap.TheVariants.{Struct}
use Rattle.rw_types.specs.declared.types.Slot as type
use Rattle.rw_types.specs.declared.types.Ty.{Ty}
use Rattle.machine_steps.specs.Steps.{Turn, with_found}
use Rattle.rich_types.specs.Scopes.{Scope}
use Rattle.rich_types.specs.Walks.{outside, walk_heap, walk_slots}
use Rattle.rich_types.specs.Instances.{Substitution, substituting}
use Rattle.rich_types.proofs.Shapes.{walk-Struct}
use Rattle.rich_rules.specs.Forms.{is_unr_type}
use Rattle.rich_rules.specs.Raised.{one_location, raise_all}
use Rattle.rich_rules.specs.Structs as rules
use Rattle.rich_rules.specs.Structs.{slot_types}
use Rattle.rich_rules.specs.Takers.{first_held, or_else}
use Rattle.rich_reduction.specs.Configurations.{Val, Location, Slot, Slots, Cell, Stores, Config, Event}
use Rattle.rich_reduction.specs.Cells.{cell_at, with_slots}
use Rattle.rich_reduction.specs.Structs.{slots_of}
use Rattle.rich_rights.specs.Rights.{Counter, Right, rights_to, count_all, count_slots}
use Rattle.rich_soundness_values.specs.Heaps.{Heaps, Answer, at, all_at}
use Rattle.rich_soundness_values.specs.Values.{HasType, HaveTypes, no_types, more_types}
use Rattle.rich_soundness_values.specs.Cells.{HaveSlots, no_slots, more_slots}
use Rattle.rich_soundness_values.proofs.Typed.{no_rights}
use Rattle.rich_soundness_rows.proofs.Closed.{unr_at}
use Rattle.rich_soundness_binders.specs.Laws.{onto}
use Rattle.rich_soundness_binders.proofs.Onto.{raised_stays}
use Rattle.rich_soundness_binders.proofs.Bodies.{placed}

-- slots in closed types
abbrev pub slots_at : Substitution → List type.Slot → List type.Slot
slots_at g ss = walk_slots (substituting g) outside ss

pub struct_at : (g : Substitution) (ss : List type.Slot) → walk_heap (substituting g) outside (Struct ss) ≡ Struct (slots_at g ss)
struct_at g ss = walk-Struct (substituting g) outside ss

-- what follows from the cell of a struct
pub in_struct : (l : Location) (cell : Cell) (slots : List Slot) (s : Stores) (k : Cell → List Slot → Turn Event Config) → cell_at l s ≡ Some cell → cell.content ≡ Slots slots →
    with_found (cell_at l s) (λ x. with_slots x.content (λ ss. k x ss)) ≡ k cell slots
in_struct l cell slots s k at is = ap (λ (o : Option Cell). with_found o (λ x. with_slots x.content (λ ss. k x ss))) at ∙ ap (λ x. with_slots x (λ ss. k cell ss)) is

-- the slot with this number
pub slot_at : {hs : Heaps} (g : Substitution) (slots : List Slot) (ss : List type.Slot) (n : ℕ) (s : type.Slot) → HaveSlots hs slots (slots_at g ss) → slice_get ss n ≡ Some s → (slot : Slot) × (slice_get slots n ≡ Some slot) × HasType hs slot.value (at g s.ty)
slot_at g slots [] n s h e = cc
slot_at g [] (y ∷ ss) n s h e = elim h [ ]
slot_at {hs = hs} g (x ∷ slots) (y ∷ ss) zero s (more_slots z h t) e = let i : y ≡ s = cc in (x, refl, subst (λ (o : type.Slot). HasType hs x.value (at g o.ty)) i h)
slot_at g (x ∷ slots) (y ∷ ss) (suc n) s (more_slots z h t) e = slot_at g slots ss n s t e

-- another value in it
pub slot_set_typed : {hs : Heaps} (g : Substitution) (slots : List Slot) (ss : List type.Slot) (n : ℕ) (slot : Slot) (s : type.Slot) (v : Val) (t : Ty) → HaveSlots hs slots (slots_at g ss) → slice_get slots n ≡ Some slot → slice_get ss n ≡ Some s → HasType hs v (at g t) →
    HaveSlots hs (slice_set slots n (record slot { value = v })) (slots_at g (slice_set ss n (record { ty = t; size = s.size })))
slot_set_typed g slots [] n slot s v t h e f k = cc
slot_set_typed g [] (y ∷ ss) n slot s v t h e f k = elim h [ ]
slot_set_typed g (x ∷ slots) (y ∷ ss) zero slot s v t (more_slots z h r) e f k =
    let i : x ≡ slot = cc in let j : y ≡ s = cc in
    more_slots (sym (ap (λ (o : Slot). o.size) i) ∙ z ∙ ap (λ (o : type.Slot). o.size) j) k r
slot_set_typed g (x ∷ slots) (y ∷ ss) (suc n) slot s v t (more_slots z h r) e f k = more_slots z h (slot_set_typed g slots ss n slot s v t r e f k)

-- the same type in a slot
pub same_set : (ss : List type.Slot) (n : ℕ) (s : type.Slot) (t : Ty) → slice_get ss n ≡ Some s → t ≡ s.ty → slice_set ss n (record { ty = t; size = s.size }) ≡ ss
same_set [] n s t e f = cc
same_set (y ∷ ss) zero s t e f = let i : s ≡ y = cc in ap (λ (u : Ty). record { ty = u; size = s.size } ∷ ss) f ∙ ap (λ (o : type.Slot). o ∷ ss) i
same_set (y ∷ ss) (suc n) s t e f = ap (λ (l : List type.Slot). y ∷ l) (same_set ss n s t e f)

-- slots of types that are `unr`
held_none : (c : Scope) (t : Ty) (ts : List Ty) (b : Bool) → is_unr_type c t ≡ b → or_else (if b then None else Some t) (first_held c ts) ≡ None → IsTrue (is_unr_type c t) × (first_held c ts ≡ None)
held_none c t ts true e f = (e, f)
held_none c t ts false e f = cc

pub slots_free : {hs : Heaps} (r : Right) (n : ℕ) (g : Substitution) (c : Scope) (slots : List Slot) (ss : List type.Slot) → Answer g c → HaveSlots hs slots (slots_at g ss) → first_held c (slot_types ss) ≡ None → count_slots (rights_to r n) slots ≡ 0
slots_free r n g c slots [] a no_slots e = refl
slots_free r n g c [] (y ∷ ss) a h e = elim h [ ]
slots_free r n g c (x ∷ slots) (y ∷ ss) a (more_slots z h t) e =
    let u = held_none c y.ty (slot_types ss) (is_unr_type c y.ty) refl e in
    omega (arith, no_rights r n h (unr_at g c y.ty a u.0), slots_free r n g c slots ss a t u.1)

-- new slots
pub slots_typed : {hs : Heaps} (sizes : List ℕ) {vs : List Val} {ts : List Ty} → HaveTypes hs vs ts → HaveSlots hs (slots_of sizes vs) (rules.slots_of ts sizes)
slots_typed [] no_types = no_slots
slots_typed [] (more_types h hv) = no_slots
slots_typed (s ∷ sizes) no_types = no_slots
slots_typed (s ∷ sizes) (more_types h hv) = more_slots refl h (slots_typed sizes hv)

pub slots_counted : (c : Counter) (sizes : List ℕ) (vs : List Val) → length vs ≡ length sizes → count_slots c (slots_of sizes vs) ≡ count_all c vs
slots_counted c [] [] e = refl
slots_counted c [] (v ∷ vs) e = absurd (omega arith)
slots_counted c (s ∷ sizes) [] e = absurd (omega arith)
slots_counted c (s ∷ sizes) (v ∷ vs) e = omega (arith, slots_counted c sizes vs (omega arith))

slots_raised : (g : Substitution) (l : Location) (ts : List Ty) (sizes : List ℕ) → slots_at (onto (placed l) g) (rules.slots_of (raise_all one_location ts) sizes) ≡ rules.slots_of (all_at g ts) sizes
slots_raised g l [] sizes = refl
slots_raised g l (t ∷ ts) [] = refl
slots_raised g l (t ∷ ts) (s ∷ sizes) = ap (λ (u : Ty). record { ty = u; size = s } ∷ slots_at (onto (placed l) g) (rules.slots_of (raise_all one_location ts) sizes)) (raised_stays (placed l) g outside t)
    ∙ ap (λ (us : List type.Slot). record { ty = at g t; size = s } ∷ us) (slots_raised g l ts sizes)

pub struct_raised : (g : Substitution) (l : Location) (ts : List Ty) (sizes : List ℕ) → walk_heap (substituting (onto (placed l) g)) outside (Struct (rules.slots_of (raise_all one_location ts) sizes)) ≡ Struct (rules.slots_of (all_at g ts) sizes)
struct_raised g l ts sizes = struct_at (onto (placed l) g) (rules.slots_of (raise_all one_location ts) sizes) ∙ ap Struct (slots_raised g l ts sizes)
