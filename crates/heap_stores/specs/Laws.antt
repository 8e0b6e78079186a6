-- What a store inside of what was given leaves as it is.
use Rattle.std.specs.Prelude.{◌≡◌, ℕ, ◌+◌, ◌*◌, ◌≤◌, ◌⊎◌, List}
use Rattle.memory_words.specs.Memories.{write, word}
use Rattle.wasm_execution.specs.Configurations.{Store}
use Rattle.heap_events.specs.Events.{HeapEvent}
use Rattle.heap_events.specs.Heaps.{Extent, IsLive, IsGranted, end_of, LiesIn}
use Rattle.heap_events.specs.Safety.{IsInside}
use Rattle.heap_histories.specs.Histories.{IsHeapAfter}

-- a number is stored in so many bytes at an address
abbrev pub stored : ℕ → ℕ → ℕ → Store → Store
stored address count v s = record s { memory = write count s.memory address v }

-- the store has its heap after the same events
abbrev pub StoresKeepHeaps : Type 0
StoresKeepHeaps =
    (linear unrestricted address count v : ℕ) (es : List HeapEvent) (s : Store) → IsHeapAfter linear unrestricted es s → IsInside es address count
    → IsHeapAfter linear unrestricted es (stored address count v s)

-- no word changes but those of the payload or grant that is stored to
abbrev pub StoresStayInside : Type 0
StoresStayInside =
    (linear unrestricted address count v : ℕ) (es : List HeapEvent) (s : Store) (x : Extent) → IsHeapAfter linear unrestricted es s → IsLive es x ⊎ IsGranted es x → LiesIn address count x
    → (i : ℕ) → (8 * i + 8 ≤ x.address) ⊎ (end_of x ≤ 8 * i) → word (stored address count v s).memory i ≡ word s.memory i
