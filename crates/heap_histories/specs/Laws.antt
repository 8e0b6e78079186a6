-- What holds of histories, and of stores that have their heap after one.
use Rattle.std.specs.Prelude.{◌≡◌, ℕ, ◌+◌, ◌*◌, ◌<◌, ◌≤◌, ◌==◌, if◌then◌else◌, List, [], ◌∷◌, ◌++◌, Option, Some, None, map, slice_get}
use Rattle.wasm_execution.specs.Configurations.{Store, Event}
use Rattle.allocator_contract.specs.Laws.{IsAtStart}
use Rattle.heap_events.specs.Events.{HeapEvent, Alloc, Free, Grant, calls_from, open_calls, events_from, heap_events}
use Rattle.heap_events.specs.Heaps.{Extent, blocks_of, grants_of, IsLive, IsGranted, end_of, AreApart}
use Rattle.heap_events.specs.Safety.{IsSafeAfter, IsMemorySafe}
use Rattle.heap_events.specs.Honesty.{IsHonestAfter, IsHonest, HasFreeList}
use Rattle.heap_histories.specs.Histories.{IsHeapAfter}

-- what a run says in two parts
abbrev pub RunsGrow : Type 0
RunsGrow = (said more : List Event) → (open_calls (said ++ more) ≡ calls_from (open_calls said) more) × (heap_events (said ++ more) ≡ heap_events said ++ events_from (open_calls said) more)

-- one thing more that is said, or that happens
abbrev pub HonestyGrows : Type 0
HonestyGrows = (linear unrestricted : ℕ) (said : List Event) (e : Event) → IsHonest linear unrestricted said → IsHonestAfter linear unrestricted said e → IsHonest linear unrestricted (said ++ (e ∷ []))

abbrev pub SafetyGrows : Type 0
SafetyGrows = (linear unrestricted : ℕ) (es : List HeapEvent) (e : HeapEvent) → IsMemorySafe linear unrestricted es → IsSafeAfter linear unrestricted es e → IsMemorySafe linear unrestricted (es ++ (e ∷ []))

-- a block that begins at this address is gone
abbrev pub cleared : ℕ → Option Extent → Option Extent
cleared a None = None
cleared a (Some x) = if x.address == a then None else Some x

-- the blocks and the grants after one event more
abbrev pub blocks_then : HeapEvent → List (Option Extent) → List (Option Extent)
blocks_then (Alloc a n) xs = xs ++ (Some (record { address = a; words = n }) ∷ [])
blocks_then (Free a) xs = map (cleared a) xs
blocks_then _ xs = xs

abbrev pub grants_then : HeapEvent → List Extent → List Extent
grants_then (Grant a n) xs = xs ++ (record { address = a; words = n } ∷ [])
grants_then _ xs = xs

abbrev pub HeapsGrow : Type 0
HeapsGrow = (es : List HeapEvent) (e : HeapEvent) → (blocks_of (es ++ (e ∷ [])) ≡ blocks_then e (blocks_of es)) × (grants_of (es ++ (e ∷ [])) ≡ grants_then e (grants_of es))

-- at the start nothing was given
abbrev pub StartIsHeapAfter : Type 0
StartIsHeapAfter = (linear unrestricted : ℕ) (s : Store) → IsAtStart linear unrestricted s → IsHeapAfter linear unrestricted [] s

-- the free list is the one that is read
abbrev pub FreeListIsRead : Type 0
FreeListIsRead = (linear unrestricted : ℕ) (es : List HeapEvent) (s : Store) → (h : IsHeapAfter linear unrestricted es s) → HasFreeList linear s h.free

-- payloads that are live lie in the linear part, behind its first words, and have no byte in common
abbrev pub LiveLieWithin : Type 0
LiveLieWithin =
    (linear unrestricted : ℕ) (es : List HeapEvent) (s : Store) (x : Extent) → IsHeapAfter linear unrestricted es s → IsLive es x
    → (24 ≤ x.address) × (end_of x ≤ 65536 * linear)

abbrev pub LiveAreApart : Type 0
LiveAreApart =
    (linear unrestricted : ℕ) (es : List HeapEvent) (s : Store) (i j : ℕ) (x y : Extent) → IsHeapAfter linear unrestricted es s → i < j
    → slice_get (blocks_of es) i ≡ Some (Some x) → slice_get (blocks_of es) j ≡ Some (Some y) → AreApart x y

-- grants lie in the region, up to its next address, and have no byte in common
abbrev pub GrantsLieWithin : Type 0
GrantsLieWithin =
    (linear unrestricted : ℕ) (es : List HeapEvent) (s : Store) (x : Extent) → (h : IsHeapAfter linear unrestricted es s) → IsGranted es x
    → (65536 * linear ≤ x.address) × (end_of x ≤ h.next) × (h.next ≤ 65536 * (linear + unrestricted))

abbrev pub GrantsAreApart : Type 0
GrantsAreApart =
    (linear unrestricted : ℕ) (es : List HeapEvent) (s : Store) (i j : ℕ) (x y : Extent) → IsHeapAfter linear unrestricted es s → i < j
    → slice_get (grants_of es) i ≡ Some x → slice_get (grants_of es) j ≡ Some y → AreApart x y
