-- What becomes of the stores in a run. This project's own.
use Rattle.std.specs.Prelude.{◌≡◌, ℕ, zero, suc, List, [], ◌∷◌, Option, Some, None, length, slice_get, ⊤}
use Rattle.rw_types.specs.declared.types.Mem.{Mem}
use Rattle.rw_types.specs.declared.types.Mem.TheVariants.{L, U}
use Rattle.rich_reduction.specs.Configurations.{Cell, Stores, Event, Made}

-- what may stand later in a place of the linear store: what was freed stays so, and a cell stays, with its words, or is freed; where
-- no place was yet, anything
abbrev pub IsLaterPlace : Option (Option Cell) → Option (Option Cell) → Type 0
IsLaterPlace None later = ⊤
IsLaterPlace (Some None) later = later ≡ Some None
IsLaterPlace (Some (Some cell)) None = ⊥
IsLaterPlace (Some (Some cell)) (Some None) = ⊤
IsLaterPlace (Some (Some cell)) (Some (Some later)) = later.words ≡ cell.words

-- in a place of the unrestricted store a cell stays, with its words
abbrev pub IsLaterCell : Option Cell → Option Cell → Type 0
IsLaterCell None later = ⊤
IsLaterCell (Some cell) None = ⊥
IsLaterCell (Some cell) (Some later) = later.words ≡ cell.words

-- in each place of both stores
pub record AreLater (s s' : Stores) : Type 0 where
  pub linear : (n : ℕ) → IsLaterPlace (slice_get s.linear n) (slice_get s'.linear n)
  pub unrestricted : (n : ℕ) → IsLaterCell (slice_get s.unrestricted n) (slice_get s'.unrestricted n)

-- how many places a store has
abbrev pub places : Mem → Stores → ℕ
places L s = length s.linear
places U s = length s.unrestricted

-- this number, where both memories are one
abbrev pub if_same : Mem → Mem → ℕ → List ℕ
if_same L L n = n ∷ []
if_same U U n = n ∷ []
if_same _ _ n = []

-- the number of the cell of this memory that an event says was made
abbrev pub made_in : Mem → Event → List ℕ
made_in m (Made l words) = if_same m l.mem l.number
made_in m _ = []

-- so many numbers from this one on
abbrev pub counting : ℕ → ℕ → List ℕ
counting from zero = []
counting from (suc n) = from ∷ counting (suc from) n
