-- Laws on stores whose cells hold what stands in them. This project's own.
use Rattle.std.specs.Prelude.{◌≡◌, ℕ, Option, Some, length, slice_get, slice_set}
use Rattle.rw_types.specs.declared.types.Heap.{Heap}
use Rattle.rw_types.specs.declared.types.Mem.TheVariants.{L, U}
use Rattle.rich_reduction.specs.Configurations.{Cell, Stores}
use Rattle.rich_reduction.specs.Cells.{with_new}
use Rattle.rich_rights.specs.Rights.{Reading, rights_to, count_stores}
use Rattle.rich_soundness_values.specs.Heaps.{Heaps}
use Rattle.rich_soundness_values.specs.Cells.{Holds, Stored}
use Rattle.rich_soundness_values.specs.Laws.{Keeps}
use Rattle.rich_soundness_stores.specs.Turns.{turned, grown}

-- no cell has a right to read at the linear location of this number
abbrev pub IsUnread : ℕ → Stores → Type 0
IsUnread n s = count_stores (rights_to Reading n) s ≡ 0

-- what stands elsewhere stays where one linear location turns, and where the unrestricted store grows
abbrev pub TurningKeeps : Type 0
TurningKeeps = (hs : Heaps) (n : ℕ) (h : Heap) → Keeps n hs (turned n h hs)

abbrev pub GrowingKeeps : Type 0
GrowingKeeps = (hs : Heaps) (n : ℕ) (h : Heap) → Keeps n hs (grown h hs)

-- where no cell has a right to read at a linear location, its cell may be changed or taken out: what stands there turns, and all
-- cells hold what stands in them
abbrev pub LinearTurns : Type 0
LinearTurns =
    (hs : Heaps) (s : Stores) (n : ℕ) (h : Heap) (old new : Option Cell) → Stored hs s → IsUnread n s → slice_get s.linear n ≡ Some old
    → ((cell : Cell) → new ≡ Some cell → Holds (turned n h hs) L h cell.content)
    → Stored (turned n h hs) (record s { linear = slice_set s.linear n new })

-- a new linear cell
abbrev pub LinearGrows : Type 0
LinearGrows =
    (hs : Heaps) (s : Stores) (h : Heap) (cell : Cell) → Stored hs s → IsUnread (length s.linear) s
    → Holds (turned (length s.linear) h hs) L h cell.content
    → Stored (turned (length s.linear) h hs) (with_new L cell s)

-- a new unrestricted cell
abbrev pub UnrestrictedGrows : Type 0
UnrestrictedGrows =
    (hs : Heaps) (s : Stores) (n : ℕ) (h : Heap) (cell : Cell) → Stored hs s → IsUnread n s → Holds (grown h hs) U h cell.content
    → Stored (grown h hs) (with_new U cell s)

-- an unrestricted cell that holds what stood there
abbrev pub UnrestrictedTurns : Type 0
UnrestrictedTurns =
    (hs : Heaps) (s : Stores) (n : ℕ) (h : Heap) (old new : Cell) → Stored hs s → slice_get hs.unrestricted n ≡ Some h → slice_get s.unrestricted n ≡ Some old
    → Holds hs U h new.content
    → Stored hs (record s { unrestricted = slice_set s.unrestricted n new })
