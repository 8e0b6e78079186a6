-- A memory at the start is a heap of one free block.
use Rattle.std.specs.Prelude.{◌≡◌, ℕ, ◌+◌, ◌*◌, ◌≤◌, [], length, Some, slice_get}
use Rattle.memory_words.specs.Memories.{word}
use Rattle.wasm_execution.specs.Configurations.{Store}
use Rattle.heap_blocks.specs.Blocks.{IsFresh, first_blocks}
use Rattle.allocator_contract.specs.Heaps.{linear_words, IsHeap}

-- a memory of these pages, whose head word names one block of all words, and whose region is given from its start on
pub record IsAtStart (linear unrestricted : ℕ) (s : Store) : Type 0 where
  pub some : 1 ≤ linear
  pub most : linear + unrestricted ≤ 1024
  pub long : length s.memory ≡ 65536 * (linear + unrestricted)
  pub fresh : IsFresh (linear_words linear) (word s.memory)
  pub trap_code : slice_get s.globals 0 ≡ Some 0
  pub next : slice_get s.globals 1 ≡ Some (65536 * linear)

abbrev pub StartIsHeap : Type 0
StartIsHeap = (linear unrestricted : ℕ) (s : Store) → IsAtStart linear unrestricted s → IsHeap linear unrestricted (65536 * linear) s [] (first_blocks (linear_words linear))
