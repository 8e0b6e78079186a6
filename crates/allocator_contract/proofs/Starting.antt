-- The heap at the start.
use Rattle.std.proofs.Common.{◌*◌, arith}
use Rattle.memory_words.specs.Memories.{word}
use Rattle.heap_blocks.proofs.Readings.{fresh_is_tiled}
use Rattle.allocator_contract.specs.Heaps.{linear_words}
use Rattle.allocator_contract.specs.Laws.{StartIsHeap}

pub start_is_heap : StartIsHeap
start_is_heap linear unrestricted s h = record {
  some = h.some;
  most = h.most;
  long = h.long;
  tiled = fresh_is_tiled (linear_words linear) (word s.memory) (omega (arith, h.some)) h.fresh;
  trap_code = 0;
  zeroth = h.trap_code;
  first = h.next;
  behind = omega arith;
  within = omega (arith, h.long);
  next_word = 8192 * linear;
  aligned = omega arith;
}
