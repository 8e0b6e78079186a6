-- What a cell holds, by what stands in it.
use Rattle.std.proofs.Common.{◌≡◌, ℕ, List, [], Some, refl, sym, ap, ◌∙◌, subst}
use Rattle.std.specs.Prelude.{slice_get, length}
use Rattle.wasm_operators.specs.declared.Width.TheVariants.{W32}
use Rattle.wasm_num.specs.Widths.{IsWithin}
use Rattle.rw_types.specs.declared.types.Heap.{Heap, Struct', Variant', Array', Exist', items-the_row-Slot, items_hidden-the_row-Slot-0}
use Rattle.rw_types.specs.declared.types.Heap.TheBlock.{hidden-the_row-Ty-2}
use Rattle.rw_types.specs.declared.types.Heap.TheVariants.{Struct, Variant, Array, Exist}
use Rattle.rw_types.specs.declared.types.Mem.{Mem}
use Rattle.rw_types.specs.declared.types.Mem.TheVariants.{U}
use Rattle.rw_types.specs.declared.types.Pre.{Unit}
use Rattle.rw_types.specs.declared.types.Qual.{Qual}
use Rattle.rw_types.specs.declared.types.Qual.TheVariants.{Unr}
use Rattle.rw_types.specs.declared.types.Slot as type
use Rattle.rw_types.specs.declared.types.Ty.{Ty, Of, end_of-Ty, more_of-Ty, items-the_row-Ty, items_hidden-the_row-Ty-1}
use Rattle.rich_reduction.specs.Configurations.{Val, Slot, Content, Slots, Case, Elements, Hidden}
use Rattle.rich_soundness_values.specs.Heaps.{Heaps, IsUnr, size_of, with_type}
use Rattle.rich_soundness_values.specs.Values.{HasType, HaveTypes}
use Rattle.rich_soundness_values.specs.Cells.{HaveSlots, each, Holds, is_struct, is_variant, is_array, is_package}

-- the kinds of cells
data Kind : Type 0 where
  AStruct : Kind
  AVariant : Kind
  AnArray : Kind
  APackage : Kind

abbrev kind_in : Heap → Kind
kind_in (Struct' m ss) = AStruct
kind_in (Variant' m ts) = AVariant
kind_in (Array' a t) = AnArray
kind_in (Exist' q s a t) = APackage

abbrev kind_of : Content → Kind
kind_of (Slots ss) = AStruct
kind_of (Case n v) = AVariant
kind_of (Elements vs) = AnArray
kind_of (Hidden s v) = APackage

same_kind : {hs : Heaps} {m : Mem} {h : Heap} {x : Content} → Holds hs m h x → kind_of x ≡ kind_in h
same_kind (is_struct ss e h) = sym (ap kind_in e)
same_kind (is_variant ts t e at u h) = sym (ap kind_in e)
same_kind (is_array t e u w h) = sym (ap kind_in e)
same_kind (is_package q u t e f size g h) = sym (ap kind_in e)

-- the parts of what stands in a cell
abbrev slots_in : Heap → List type.Slot
slots_in (Struct' m ss) = items-the_row-Slot _ ss
slots_in h = []

abbrev cases_in : Heap → List Ty
cases_in (Variant' m ts) = items-the_row-Ty _ ts
cases_in h = []

abbrev part_in : Heap → Ty
part_in (Array' a (more_of-Ty t end_of-Ty)) = t
part_in (Exist' q s a (more_of-Ty t end_of-Ty)) = t
part_in h = Of Unr Unit

abbrev qual_in : Heap → Qual
qual_in (Exist' q s a t) = q
qual_in h = Unr

abbrev size_in : Heap → ℕ
size_in (Exist' q s a t) = s
size_in h = 0

same_slots : (ss us : List type.Slot) → Struct ss ≡ Struct us → ss ≡ us
same_slots ss us e = sym (items_hidden-the_row-Slot-0 ss) ∙ ap slots_in e ∙ items_hidden-the_row-Slot-0 us

same_cases : (ts us : List Ty) → Variant ts ≡ Variant us → ts ≡ us
same_cases ts us e = sym (items_hidden-the_row-Ty-1 ts) ∙ ap cases_in e ∙ items_hidden-the_row-Ty-1 us

same_element : (t u : Ty) → Array t ≡ Array u → t ≡ u
unfolding hidden-the_row-Ty-2 denote.Hole.Carrier.hidden
same_element t u e = ap part_in e

same_body : (q r : Qual) (s z : ℕ) (t u : Ty) → Exist q s t ≡ Exist r z u → (q ≡ r) × (s ≡ z) × (t ≡ u)
unfolding hidden-the_row-Ty-2 denote.Hole.Carrier.hidden
same_body q r s z t u e = (ap qual_in e, ap size_in e, ap part_in e)

-- a struct
pub record IsStruct (hs : Heaps) (x : Content) (ss : List type.Slot) : Type 0 where
  pub slots : List Slot
  pub is : x ≡ Slots slots
  pub typed : HaveSlots hs slots ss

struct_go : {hs : Heaps} {m : Mem} {h : Heap} (x : Content) (ss : List type.Slot) → kind_of x ≡ AStruct → Holds hs m h x → h ≡ Struct ss → IsStruct hs x ss
struct_go {hs = hs} (Slots slots) ss k (is_struct us e h) f = record { slots = slots; is = refl; typed = subst (λ (o : List type.Slot). HaveSlots hs slots o) (same_slots us ss (sym e ∙ f)) h }
struct_go (Case n v) ss k h f = cc
struct_go (Elements vs) ss k h f = cc
struct_go (Hidden s v) ss k h f = cc

pub struct_held : {hs : Heaps} {m : Mem} {h : Heap} {x : Content} (ss : List type.Slot) → Holds hs m h x → h ≡ Struct ss → IsStruct hs x ss
struct_held {x = x} ss h f = struct_go x ss (same_kind h ∙ ap kind_in f) h f

-- a variant
pub record IsVariant (hs : Heaps) (m : Mem) (x : Content) (ts : List Ty) : Type 0 where
  pub number : ℕ
  pub value : Val
  pub is : x ≡ Case number value
  pub type : Ty
  pub found : slice_get ts number ≡ Some type
  pub unrestricted : m ≡ U → IsUnr type
  pub typed : HasType hs value type

variant_go : {hs : Heaps} {m : Mem} {h : Heap} (x : Content) (ts : List Ty) → kind_of x ≡ AVariant → Holds hs m h x → h ≡ Variant ts → IsVariant hs m x ts
variant_go (Slots slots) ts k h f = cc
variant_go (Case n v) ts k (is_variant us t e at u h) f = record { number = n; value = v; is = refl; type = t; found = ap (λ (l : List Ty). slice_get l n) (sym (same_cases us ts (sym e ∙ f))) ∙ at; unrestricted = u; typed = h }
variant_go (Elements vs) ts k h f = cc
variant_go (Hidden s v) ts k h f = cc

pub variant_held : {hs : Heaps} {m : Mem} {h : Heap} {x : Content} (ts : List Ty) → Holds hs m h x → h ≡ Variant ts → IsVariant hs m x ts
variant_held {x = x} ts h f = variant_go x ts (same_kind h ∙ ap kind_in f) h f

-- an array
pub record IsArray (hs : Heaps) (x : Content) (t : Ty) : Type 0 where
  pub values : List Val
  pub is : x ≡ Elements values
  pub unrestricted : IsUnr t
  pub within : IsWithin W32 (length values)
  pub typed : HaveTypes hs values (each t values)

array_go : {hs : Heaps} {m : Mem} {h : Heap} (x : Content) (t : Ty) → kind_of x ≡ AnArray → Holds hs m h x → h ≡ Array t → IsArray hs x t
array_go (Slots slots) t k h f = cc
array_go (Case n v) t k h f = cc
array_go {hs = hs} (Elements vs) t k (is_array u e unr w h) f = let s = same_element u t (sym e ∙ f) in
    record { values = vs; is = refl; unrestricted = subst IsUnr s unr; within = w; typed = subst (λ (o : Ty). HaveTypes hs vs (each o vs)) s h }
array_go (Hidden s v) t k h f = cc

pub array_held : {hs : Heaps} {m : Mem} {h : Heap} {x : Content} (t : Ty) → Holds hs m h x → h ≡ Array t → IsArray hs x t
array_held {x = x} t h f = array_go x t (same_kind h ∙ ap kind_in f) h f

-- a package
pub record IsPackage (hs : Heaps) (m : Mem) (x : Content) (q : Qual) (s : ℕ) (u : Ty) : Type 0 where
  pub value : Val
  pub is : x ≡ Hidden s value
  pub type : Ty
  pub hidden : q ≡ Unr → IsUnr type
  pub sized : size_of type ≡ s
  pub unrestricted : m ≡ U → IsUnr (with_type type u)
  pub typed : HasType hs value (with_type type u)

package_go : {hs : Heaps} {m : Mem} {h : Heap} (x : Content) (q : Qual) (s : ℕ) (u : Ty) → kind_of x ≡ APackage → Holds hs m h x → h ≡ Exist q s u → IsPackage hs m x q s u
package_go (Slots slots) q s u k h f = cc
package_go (Case n v) q s u k h f = cc
package_go (Elements vs) q s u k h f = cc
package_go {hs = hs} {m = m} (Hidden z v) q s u k (is_package r w t e g size d h) f = let i = same_body r q z s w u (sym e ∙ f) in
    record {
      value = v;
      is = ap (λ (n : ℕ). Hidden n v) i.1;
      type = t;
      hidden = λ a. g (i.0 ∙ a);
      sized = size ∙ i.1;
      unrestricted = λ a. subst (λ (o : Ty). IsUnr (with_type t o)) i.2 (d a);
      typed = subst (λ (o : Ty). HasType hs v (with_type t o)) i.2 h;
    }

pub package_held : {hs : Heaps} {m : Mem} {h : Heap} {x : Content} (q : Qual) (s : ℕ) (u : Ty) → Holds hs m h x → h ≡ Exist q s u → IsPackage hs m x q s u
package_held {x = x} q s u h f = package_go x q s u (same_kind h ∙ ap kind_in f) h f
