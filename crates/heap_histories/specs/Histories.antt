-- A store and the events of its heap so far. This project's own.
use Rattle.std.specs.Prelude.{◌≡◌, ℕ, ◌*◌, ◌<◌, ◌≤◌, List, [], ◌∷◌, Option, Some, None}
use Rattle.memory_words.specs.Memories.{word}
use Rattle.wasm_execution.specs.Configurations.{Store}
use Rattle.heap_blocks.specs.Blocks.{Block, address_of, words_of}
use Rattle.allocator_contract.specs.Heaps.{linear_words, IsHeap}
use Rattle.heap_events.specs.Events.{HeapEvent}
use Rattle.heap_events.specs.Heaps.{Extent, blocks_of, grants_of, IsLive, end_of}

-- the payloads that are live lie in these blocks of the linear part, in their order, each with at most the block's words
abbrev pub LieAt : List (Option Extent) → List Block → Type 0
LieAt [] bs = bs ≡ []
LieAt (None ∷ xs) bs = LieAt xs bs
LieAt (Some x ∷ xs) [] = ⊥
LieAt (Some x ∷ xs) (b ∷ bs) = (x.address ≡ address_of b) × (x.words ≤ words_of b) × LieAt xs bs

-- these follow each other, from one address to another
abbrev pub Follow : ℕ → List Extent → ℕ → Type 0
Follow from [] to = from ≡ to
Follow from (x ∷ xs) to = (x.address ≡ from) × Follow (end_of x) xs to

-- after these events the live blocks and the free list tile the linear part, and the grants fill the region up to its next
-- address
pub record IsHeapAfter (linear unrestricted : ℕ) (es : List HeapEvent) (s : Store) : Type 0 where
  pub live : List Block
  pub free : List Block
  pub next : ℕ
  pub heap : IsHeap linear unrestricted next s live free
  pub blocks : LieAt (blocks_of es) live
  pub grants : Follow (65536 * linear) (grants_of es) next

-- no word of a payload that is live after these events changes, and none from the linear part's end on
pub record KeepsGiven (linear : ℕ) (es : List HeapEvent) (s s' : Store) : Type 0 where
  pub blocks : (x : Extent) → IsLive es x → (i : ℕ) → x.address ≤ 8 * i → 8 * i < end_of x → word s'.memory i ≡ word s.memory i
  pub region : (i : ℕ) → linear_words linear ≤ i → word s'.memory i ≡ word s.memory i
