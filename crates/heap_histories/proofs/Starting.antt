-- The heap at the start, and the free list that is read.
use Rattle.std.proofs.Common.{◌∙◌, ℕ, ◌*◌, List, [], Some, refl, ap, arith}
use Rattle.memory_words.specs.Memories.{word}
use Rattle.heap_blocks.specs.Blocks.{Block, first_blocks}
use Rattle.heap_blocks.proofs.Readings.{readable_is_read, tiled_is_readable}
use Rattle.allocator_contract.specs.Heaps.{linear_words, IsHeap}
use Rattle.allocator_contract.proofs.Starting.{start_is_heap}
use Rattle.wasm_execution.specs.Configurations.{Store}
use Rattle.heap_events.specs.Honesty.{HasFreeList}
use Rattle.heap_histories.specs.Laws.{StartIsHeapAfter, FreeListIsRead}

pub start_is_heap_after : StartIsHeapAfter
start_is_heap_after linear unrestricted s h = record {
  live = [];
  free = first_blocks (linear_words linear);
  next = 65536 * linear;
  heap = start_is_heap linear unrestricted s h;
  blocks = refl;
  grants = refl;
}

pub heap_is_read : (linear unrestricted next : ℕ) (s : Store) (live free : List Block) → IsHeap linear unrestricted next s live free → HasFreeList linear s free
heap_is_read linear unrestricted next s live free h =
    let words = linear_words linear in
    let t = tiled_is_readable words (word s.memory) live free h.tiled in
    readable_is_read words (word s.memory) (omega (arith, h.some)) t.0 ∙ ap (λ (bs : List Block). Some bs) t.1

pub free_list_is_read : FreeListIsRead
free_list_is_read linear unrestricted es s h = heap_is_read linear unrestricted h.next s h.live h.free h.heap
