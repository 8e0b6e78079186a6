-- What steps on cells leave: stores whose cells hold what stands in them. This project's own.
use Rattle.std.specs.Prelude.{◌≡◌, ◌≤◌, ℕ, ◌+◌, Some, slice_get}
use Rattle.rw_types.specs.declared.types.Heap.{Heap}
use Rattle.rw_types.specs.declared.types.Mem.{Mem}
use Rattle.rw_types.specs.declared.types.Mem.TheVariants.{U}
use Rattle.rich_reduction.specs.Configurations.{Location, Content, Cell, Stores}
use Rattle.rich_reduction.specs.Cells.{cell_at, put_at, new_location, with_new, opened_in}
use Rattle.rich_rights.specs.Rights.{Reading, rights_to, is_at, is_live, count_content}
use Rattle.rich_soundness_values.specs.Heaps.{Heaps, Stands}
use Rattle.rich_soundness_values.specs.Cells.{Holds, Stored}
use Rattle.rich_soundness_values.specs.Laws.{Keeps}
use Rattle.rich_soundness_stores.specs.Laws.{IsUnread}

-- what stands after a step from these stores to those: elsewhere than at one linear location what stood, and that is live only
-- where so much was held
pub record After (hs : Heaps) (s s' : Stores) (held : ℕ → ℕ) : Type 0 where
  pub heaps : Heaps
  pub number : ℕ
  pub keeps : Keeps number hs heaps
  pub bound : is_live (slice_get s.linear number) ≤ held number
  pub stored : Stored heaps s'

-- a cell is written: in the linear memory something else may stand there then, if neither the new content nor a cell has a right
-- to read there
abbrev pub CellsAreWritten : Type 0
CellsAreWritten =
    (hs : Heaps) (s : Stores) (l : Location) (h h' : Heap) (cell : Cell) (x : Content) → Stored hs s → Stands hs l h → cell_at l s ≡ Some cell
    → (l.mem ≡ U → h' ≡ h) → Holds hs l.mem h' x
    → ((n : ℕ) → is_at n l ≡ 1 → (count_content (rights_to Reading n) x ≡ 0) × IsUnread n s)
    → (a : After hs s (put_at l (record cell { content = x }) s) (λ n. is_at n l)) × Stands a.heaps l h'

-- a cell is made
abbrev pub CellsAreMade : Type 0
CellsAreMade =
    (hs : Heaps) (s : Stores) (m : Mem) (h : Heap) (cell : Cell) → Stored hs s → Holds hs m h cell.content
    → ((n : ℕ) → is_live (slice_get s.linear n) ≡ 0 → (count_content (rights_to Reading n) cell.content ≡ 0) × IsUnread n s)
    → (a : After hs s (with_new m cell s) (λ n. 0)) × Stands a.heaps (new_location m s) h

-- the content of a cell is taken
abbrev pub CellsAreOpened : Type 0
CellsAreOpened =
    (hs : Heaps) (s : Stores) (l : Location) (cell : Cell) → Stored hs s → cell_at l s ≡ Some cell
    → ((n : ℕ) → is_at n l ≡ 1 → IsUnread n s)
    → After hs s (opened_in l.mem l.number s) (λ n. is_at n l)

-- what is live where a cell is written, made and opened
abbrev pub LiveStays : Type 0
LiveStays = (s : Stores) (l : Location) (old new : Cell) (n : ℕ) → cell_at l s ≡ Some old → is_live (slice_get (put_at l new s).linear n) ≡ is_live (slice_get s.linear n)

abbrev pub LiveGrows : Type 0
LiveGrows = (s : Stores) (m : Mem) (cell : Cell) (n : ℕ) → is_live (slice_get (with_new m cell s).linear n) ≡ is_live (slice_get s.linear n) + is_at n (new_location m s)

abbrev pub LiveEnds : Type 0
LiveEnds = (s : Stores) (l : Location) (cell : Cell) (n : ℕ) → cell_at l s ≡ Some cell → is_live (slice_get (opened_in l.mem l.number s).linear n) + is_at n l ≡ is_live (slice_get s.linear n)
