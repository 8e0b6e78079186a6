-- The live blocks and the grants after a list of events, and how they lie in memory. This project's own.
use Rattle.std.specs.Prelude.{◌≡◌, ℕ, ◌+◌, ◌*◌, ◌≤◌, ◌⊎◌, ◌==◌, Bool, false, ◌||◌, if◌then◌else◌, List, [], ◌∷◌, Option, Some, None, slice_get}
use Rattle.heap_events.specs.Events.{HeapEvent, Alloc, Free, Grant}

-- so many words from an address on
pub record Extent : Type 0 where
  pub address : ℕ
  pub words : ℕ

-- whether a block at this address was taken back
abbrev pub is_freed : ℕ → List HeapEvent → Bool
is_freed a [] = false
is_freed a (Free b ∷ es) = a == b || is_freed a es
is_freed a (e ∷ es) = is_freed a es

-- the blocks that were given, in the order in which they were, each unless it was taken back later
abbrev pub blocks_of : List HeapEvent → List (Option Extent)
blocks_of [] = []
blocks_of (Alloc a n ∷ es) = (if is_freed a es then None else Some (record { address = a; words = n })) ∷ blocks_of es
blocks_of (e ∷ es) = blocks_of es

-- what was given of the region, in the order in which it was
abbrev pub grants_of : List HeapEvent → List Extent
grants_of [] = []
grants_of (Grant a n ∷ es) = record { address = a; words = n } ∷ grants_of es
grants_of (e ∷ es) = grants_of es

-- this is the payload of a live block
abbrev pub IsLive : List HeapEvent → Extent → Type 0
IsLive es x = (number : ℕ) × (slice_get (blocks_of es) number ≡ Some (Some x))

abbrev pub IsGranted : List HeapEvent → Extent → Type 0
IsGranted es x = (number : ℕ) × (slice_get (grants_of es) number ≡ Some x)

-- the first address behind it
abbrev pub end_of : Extent → ℕ
end_of x = x.address + 8 * x.words

-- so many bytes at an address lie in it
pub record LiesIn (address count : ℕ) (x : Extent) : Type 0 where
  pub from : x.address ≤ address
  pub to : address + count ≤ end_of x

-- they have no byte in common
abbrev pub AreApart : Extent → Extent → Type 0
AreApart x y = (end_of x ≤ y.address) ⊎ (end_of y ≤ x.address)
