-- Heaps whose live blocks stand in another order, or whose global 0 is another.
use Rattle.std.proofs.Common.{◌≡◌, ◌∙◌, ℕ, List, [], ◌∷◌, ◌++◌, refl, sym, subst, arith}
use Rattle.std.specs.Prelude.{slice_get, slice_set}
use Rattle.memory_words.specs.Memories.{word}
use Rattle.wasm_execution.specs.Configurations.{Store}
use Rattle.heap_blocks.specs.Blocks.{Block, IsTiled}
use Rattle.heap_blocks.proofs.Lists.{covers_in, covering_append, room_append, payloads_front, payloads_back, payloads_both, headers_front, headers_back, headers_both}
use Rattle.allocator_contract.specs.Heaps.{linear_words, IsHeap, Stays}
use Rattle.allocator_contract.proofs.Returning.{set_zeroth}
use Rattle.heap_events.specs.Events.{HeapEvent}
use Rattle.heap_events.specs.Heaps.{Extent, IsLive}
use Rattle.heap_histories.specs.Histories.{IsHeapAfter, KeepsGiven}
use Rattle.heap_histories.proofs.Extents.{Found}

-- the first live block is the last one
tiled_moved : (words : ℕ) (r : ℕ → ℕ) (b : Block) (live free : List Block) → IsTiled words r (b ∷ live) free → IsTiled words r (live ++ (b ∷ [])) free
tiled_moved words r b live free t = record {
  chained = t.chained;
  headers = headers_both r live (b ∷ []) (headers_back r (b ∷ []) live t.headers) (headers_front r (b ∷ []) live t.headers);
  live_payloads = payloads_both live (b ∷ []) (payloads_back (b ∷ []) live t.live_payloads) (payloads_front (b ∷ []) live t.live_payloads);
  free_payloads = t.free_payloads;
  once = λ w. omega (arith, t.once w, covering_append w live (b ∷ []), covering_append w (b ∷ []) live);
  whole = omega (arith, t.whole, room_append live (b ∷ []), room_append (b ∷ []) live);
}

pub heap_moved : (linear unrestricted next : ℕ) (s : Store) (b : Block) (live free : List Block) → IsHeap linear unrestricted next s (b ∷ live) free → IsHeap linear unrestricted next s (live ++ (b ∷ [])) free
heap_moved linear unrestricted next s b live free h = record {
  some = h.some;
  most = h.most;
  long = h.long;
  tiled = tiled_moved (linear_words linear) (word s.memory) b live free h.tiled;
  trap_code = h.trap_code;
  zeroth = h.zeroth;
  first = h.first;
  behind = h.behind;
  within = h.within;
  next_word = h.next_word;
  aligned = h.aligned;
}

set_keeps_first : (gl : List ℕ) (y : ℕ) → slice_get (slice_set gl 0 y) 1 ≡ slice_get gl 1
set_keeps_first [] y = refl
set_keeps_first (g ∷ gs) y = refl

-- global 0 tells that memory is spent
pub heap_spent : (linear unrestricted next : ℕ) (s : Store) (live free : List Block) → IsHeap linear unrestricted next s live free → IsHeap linear unrestricted next (record s { globals = slice_set s.globals 0 1 }) live free
heap_spent linear unrestricted next s live free h = record {
  some = h.some;
  most = h.most;
  long = h.long;
  tiled = h.tiled;
  trap_code = 1;
  zeroth = set_zeroth s.globals h.trap_code 1 h.zeroth;
  first = set_keeps_first s.globals 1 ∙ h.first;
  behind = h.behind;
  within = h.within;
  next_word = h.next_word;
  aligned = h.aligned;
}

pub after_spent : (linear unrestricted : ℕ) (es : List HeapEvent) (s s' : Store) → IsHeapAfter linear unrestricted es s → s' ≡ record s { globals = slice_set s.globals 0 1 } → IsHeapAfter linear unrestricted es s'
after_spent linear unrestricted es s s' h e =
    subst (λ (t : Store). IsHeapAfter linear unrestricted es t) (sym e)
    (record { live = h.live; free = h.free; next = h.next; heap = heap_spent linear unrestricted h.next s h.live h.free h.heap; blocks = h.blocks; grants = h.grants })

-- words of blocks that stay are those of the payloads in them
pub keeps : (linear : ℕ) (es : List HeapEvent) (live : List Block) (s s' : Store) → ((x : Extent) → IsLive es x → Found x live) → Stays linear live s s' → KeepsGiven linear es s s'
keeps linear es live s s' found h = record {
  blocks = λ x l i low high.
      let f = found x l in
      let one = covers_in i f.header f.size (omega (arith, f.address, low)) (omega (arith, f.address, f.words, high)) in
      h.blocks i (omega (arith, one, f.among i));
  region = h.region;
}
