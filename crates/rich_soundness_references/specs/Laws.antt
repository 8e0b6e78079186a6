-- Cells that are there. This project's own.
use Rattle.std.specs.Prelude.{◌≡◌, ◌≤◌, Some, slice_get}
use Rattle.rw_types.specs.declared.types.Heap.{Heap}
use Rattle.rw_types.specs.declared.types.Mem.TheVariants.{L}
use Rattle.rich_reduction.specs.Configurations.{Location, Cell, Stores}
use Rattle.rich_reduction.specs.Cells.{cell_at}
use Rattle.rich_rights.specs.Rights.{is_live}
use Rattle.rich_soundness_values.specs.Heaps.{Heaps, Stands}
use Rattle.rich_soundness_values.specs.Cells.{Holds, Stored}

-- a cell is there where something stands, if it is unrestricted or live
abbrev pub CellsAreThere : Type 0
CellsAreThere =
    (hs : Heaps) (s : Stores) (l : Location) (h : Heap) → Stored hs s → Stands hs l h → (l.mem ≡ L → 1 ≤ is_live (slice_get s.linear l.number))
    → (cell : Cell) × (cell_at l s ≡ Some cell) × Holds hs l.mem h cell.content
