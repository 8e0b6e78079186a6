-- The memory and the globals that allocators work on: a linear part of blocks and a region behind it. This project's own.
use Rattle.std.specs.Prelude.{◌≡◌, ℕ, ◌+◌, ◌*◌, ◌≤◌, List, length, Some, slice_get}
use Rattle.memory_words.specs.Memories.{word}
use Rattle.wasm_execution.specs.Configurations.{Store}
use Rattle.heap_blocks.specs.Blocks.{Block, covering, IsTiled}

-- a page has 8,192 words
abbrev pub linear_words : ℕ → ℕ
linear_words pages = 8192 * pages

-- a memory of so many pages of both parts, at most 1,024; live and free blocks tile the linear part; the region's next address,
-- which global 1 has, is a multiple of 8 from the region's start to its end
pub record IsHeap (linear unrestricted next : ℕ) (s : Store) (live free : List Block) : Type 0 where
  pub some : 1 ≤ linear
  pub most : linear + unrestricted ≤ 1024
  pub long : length s.memory ≡ 65536 * (linear + unrestricted)
  pub tiled : IsTiled (linear_words linear) (word s.memory) live free
  pub trap_code : ℕ
  pub zeroth : slice_get s.globals 0 ≡ Some trap_code
  pub first : slice_get s.globals 1 ≡ Some next
  pub behind : 65536 * linear ≤ next
  pub within : next ≤ length s.memory
  pub next_word : ℕ
  pub aligned : next ≡ 8 * next_word

-- no word of these blocks changes, none from the linear part's end on, no entry of the table, and no global
pub record Stays (linear : ℕ) (kept : List Block) (s s' : Store) : Type 0 where
  pub blocks : (i : ℕ) → 1 ≤ covering i kept → word s'.memory i ≡ word s.memory i
  pub region : (i : ℕ) → linear_words linear ≤ i → word s'.memory i ≡ word s.memory i
  pub table : s'.table ≡ s.table
  pub globals : s'.globals ≡ s.globals
