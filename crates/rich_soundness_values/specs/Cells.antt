-- Cells that hold what stands at their location, and stores of such cells. This project's own.
use Rattle.std.specs.Prelude.{◌≡◌, ℕ, List, [], ◌∷◌, Some, length, slice_get}
use Rattle.wasm_operators.specs.declared.Width.TheVariants.{W32}
use Rattle.wasm_num.specs.Widths.{IsWithin}
use Rattle.rw_types.specs.declared.types.Heap.{Heap}
use Rattle.rw_types.specs.declared.types.Heap.TheVariants.{Struct, Variant, Array, Exist}
use Rattle.rw_types.specs.declared.types.Mem.{Mem}
use Rattle.rw_types.specs.declared.types.Mem.TheVariants.{L, U}
use Rattle.rw_types.specs.declared.types.Qual.{Qual}
use Rattle.rw_types.specs.declared.types.Qual.TheVariants.{Unr}
use Rattle.rw_types.specs.declared.types.Slot as type
use Rattle.rw_types.specs.declared.types.Ty.{Ty}
use Rattle.rich_reduction.specs.Configurations.{Val, Slot, Content, Slots, Case, Elements, Hidden, Cell, Stores}
use Rattle.rich_soundness_values.specs.Heaps.{Heaps, IsUnr, size_of, with_type}
use Rattle.rich_soundness_values.specs.Values.{HasType, HaveTypes}

-- the slots of a struct, one for one, each of its size
pub data HaveSlots (hs : Heaps) : List Slot → List type.Slot → Type 0 where
  no_slots : HaveSlots hs [] []
  more_slots : {slot : Slot} {slots : List Slot} {s : type.Slot} {ss : List type.Slot} → slot.size ≡ s.size → HasType hs slot.value s.ty → HaveSlots hs slots ss → HaveSlots hs (slot ∷ slots) (s ∷ ss)

-- this type for each value
abbrev pub each : Ty → List Val → List Ty
each t [] = []
each t (v ∷ vs) = t ∷ each t vs

-- what a cell of a memory holds, where this stands there. What is in a variant or in a package of the unrestricted memory is
-- `unr`, and so are elements of arrays. A package keeps the size of its hidden type
pub data Holds (hs : Heaps) (m : Mem) : Heap → Content → Type 0 where
  is_struct : {h : Heap} {slots : List Slot} (ss : List type.Slot) → h ≡ Struct ss → HaveSlots hs slots ss → Holds hs m h (Slots slots)
  is_variant : {h : Heap} {n : ℕ} {v : Val} (ts : List Ty) (t : Ty) → h ≡ Variant ts → slice_get ts n ≡ Some t → (m ≡ U → IsUnr t) → HasType hs v t → Holds hs m h (Case n v)
  is_array : {h : Heap} {vs : List Val} (t : Ty) → h ≡ Array t → IsUnr t → IsWithin W32 (length vs) → HaveTypes hs vs (each t vs) → Holds hs m h (Elements vs)
  is_package : {h : Heap} {size : ℕ} {v : Val} (q : Qual) (u t : Ty) → h ≡ Exist q size u → (q ≡ Unr → IsUnr t) → size_of t ≡ size → (m ≡ U → IsUnr (with_type t u)) → HasType hs v (with_type t u) → Holds hs m h (Hidden size v)

-- both stores hold what stands in them
pub record Stored (hs : Heaps) (s : Stores) : Type 0 where
  pub linear : (n : ℕ) (cell : Cell) → slice_get s.linear n ≡ Some (Some cell) → Holds hs L (hs.linear n) cell.content
  pub unrestricted : (n : ℕ) (h : Heap) → slice_get hs.unrestricted n ≡ Some h → (cell : Cell) × (slice_get s.unrestricted n ≡ Some cell) × Holds hs U h cell.content
  pub same_length : length hs.unrestricted ≡ length s.unrestricted
