-- Memory safety of a list of events. This project's own.
use Rattle.std.specs.Prelude.{ℕ, ◌+◌, ◌*◌, ◌≤◌, ◌⊎◌, List}
use Rattle.heap_events.specs.Events.{HeapEvent, Alloc, Free, Grant, Touch}
use Rattle.heap_events.specs.Heaps.{Extent, IsLive, IsGranted, end_of, LiesIn, AreApart}
use Rattle.heap_events.specs.Places.{AtEach}

-- an address that is freed is that of a block that is live just before
abbrev pub IsBlock : List HeapEvent → ℕ → Type 0
IsBlock before a = (words : ℕ) × IsLive before (record { address = a; words = words })

-- bytes that are touched lie in the payload of one block that is live then, or in one grant made before
pub record IsInside (before : List HeapEvent) (address count : ℕ) : Type 0 where
  pub extent : Extent
  pub given : IsLive before extent ⊎ IsGranted before extent
  pub lies : LiesIn address count extent

-- a grant lies in the region of these pages, behind so many of the linear part, and overlaps none made before
pub record IsGrantedApart (linear unrestricted : ℕ) (before : List HeapEvent) (x : Extent) : Type 0 where
  pub from : 65536 * linear ≤ x.address
  pub to : end_of x ≤ 65536 * (linear + unrestricted)
  pub apart : (y : Extent) → IsGranted before y → AreApart y x

-- an event is safe behind these
abbrev pub IsSafeAfter : ℕ → ℕ → List HeapEvent → HeapEvent → Type 0
IsSafeAfter linear unrestricted before (Alloc a n) = Unit {0}
IsSafeAfter linear unrestricted before (Free a) = IsBlock before a
IsSafeAfter linear unrestricted before (Grant a n) = IsGrantedApart linear unrestricted before (record { address = a; words = n })
IsSafeAfter linear unrestricted before (Touch a n) = IsInside before a n

-- what happened to a heap of so many pages of the linear part and of the region is safe
abbrev pub IsMemorySafe : ℕ → ℕ → List HeapEvent → Type 0
IsMemorySafe linear unrestricted es = AtEach (IsSafeAfter linear unrestricted) es
