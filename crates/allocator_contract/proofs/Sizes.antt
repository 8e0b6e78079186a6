-- How large words and memories of a heap are.
use Rattle.std.proofs.Common.{ℕ, ◌-◌, ◌*◌, ◌^◌, ◌≤◌, List, [], ◌∷◌, length, arith}
use Rattle.wasm_execution.specs.Configurations.{Store}
use Rattle.heap_blocks.specs.Blocks.{Block, Headed, covering, AreChained, is_tiled_word}
use Rattle.heap_blocks.proofs.Lists.{covers_in, covers_left, covers_right}
use Rattle.allocator_contract.specs.Heaps.{linear_words, IsHeap}

-- a next word is small
pub chain_small : (words : ℕ) (r : ℕ → ℕ) (h : ℕ) (bs : List Block) → 3 ≤ words → AreChained r h bs → ((w : ℕ) → covering w bs ≤ is_tiled_word words w) → h ≤ 8 * words
chain_small words r h [] w3 c once = omega (arith, c)
chain_small words r h (Headed j n ∷ bs) w3 c once =
    let mine = covers_in j j n (omega arith) (omega arith) in
    let most = once j in
    let high = covers_right j 2 (words - 3) (omega (arith, mine, most)) in
    let low = covers_left j 2 (words - 3) (omega (arith, mine, most)) in
    omega (arith, c.0, high, low, w3)

module _ (linear unrestricted next : ℕ) (s : Store) (live free : List Block) (h : IsHeap linear unrestricted next s live free) where
  pub three : 3 ≤ linear_words linear
  three = omega (arith, h.some)

  pub few : linear_words linear ≤ 2 ^ 23
  few = omega (arith, h.most)

  pub within_memory : 8 * linear_words linear ≤ length s.memory
  within_memory = omega (arith, h.long)
