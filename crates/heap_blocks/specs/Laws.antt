-- What holds of readers, tilings and allocation, for any linear part.
use Rattle.std.specs.Prelude.{◌≡◌, ℕ, ◌≤◌, List, [], Some, None}
use Rattle.heap_blocks.specs.Blocks.{Block, IsReadable, IsTiled, IsFresh, header_walk, first_blocks}
use Rattle.heap_blocks.specs.FreeLists.{free_list}
use Rattle.heap_blocks.specs.Allocation.{Taken, first_fit, AreSmaller, IsFirstFit}

-- where the free list can be read, reading it gives it
abbrev pub ReadableIsRead : Type 0
ReadableIsRead = (words : ℕ) (r : ℕ → ℕ) → 3 ≤ words → (h : IsReadable words r) → free_list words r ≡ Some h.free

-- a walk by headers comes to the end of the linear part
abbrev pub HeadersLead : Type 0
HeadersLead = (words : ℕ) (r : ℕ → ℕ) → 3 ≤ words → IsReadable words r → (n : ℕ) × (header_walk r n 2 ≡ words)

-- a tiled part can be read, and its free list is the one that is read
abbrev pub TiledIsReadable : Type 0
TiledIsReadable = (words : ℕ) (r : ℕ → ℕ) (live free : List Block) → IsTiled words r live free → (h : IsReadable words r) × (h.free ≡ free)

-- a fresh part is tiled by one free block
abbrev pub FreshIsTiled : Type 0
FreshIsTiled = (words : ℕ) (r : ℕ → ℕ) → 4 ≤ words → IsFresh words r → IsTiled words r [] (first_blocks words)

-- a block that is given is the front of the first one that fits
abbrev pub FitIsFirst : Type 0
FitIsFirst = (asked : ℕ) (free : List Block) (t : Taken) → first_fit asked free ≡ Some t → IsFirstFit asked free t

-- where none is given, each is too small
abbrev pub NoneIsSmall : Type 0
NoneIsSmall = (asked : ℕ) (free : List Block) → first_fit asked free ≡ None → AreSmaller asked free
