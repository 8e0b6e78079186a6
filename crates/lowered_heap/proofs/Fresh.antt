-- The words of a memory of zeros into which the free list at the start was put.
use Rattle.std.proofs.Common.{◌≡◌, ◌∙◌, ℕ, suc, ◌-◌, ◌^◌, ◌<◌, ◌≤◌, List, [], ◌∷◌, ◌++◌, length, take, drop, refl, sym, ap, arith, drop-drop}
use Rattle.std.proofs.lemmas.List.{length-take-le}
use Rattle.std.proofs.lemmas.List.Elements.{All-take, All-drop, All-replicate}
use Rattle.std.proofs.lemmas.Nat.{from_le_bytes-to_le_bytes_8}
use Rattle.std.proofs.Math.Seq.{drop-append_seam}
use Rattle.std.specs.Int.{to_le_bytes, from_le_bytes, w64}
use Rattle.std.specs.Prelude.{All}
use Rattle.memory_words.specs.Memories.{number_of, zeros, put, read, word}
use Rattle.memory_words.proofs.Bytes.{length-zeros, length-put, put-high}
use Rattle.heap_blocks.specs.Blocks.{IsFresh}

spelled : (a b c d e f g h : ℕ) → number_of (a ∷ b ∷ c ∷ d ∷ e ∷ f ∷ g ∷ h ∷ []) ≡ from_le_bytes w64 (a ∷ b ∷ c ∷ d ∷ e ∷ f ∷ g ∷ h ∷ [])
spelled a b c d e f g h = omega arith

number_again : (n : ℕ) → n < 2 ^ 64 → number_of (to_le_bytes w64 n) ≡ n
number_again n lt = spelled _ _ _ _ _ _ _ _ ∙ from_le_bytes-to_le_bytes_8 n lt

all_zero : (bs : List ℕ) → All (λ (b : ℕ). b ≡ 0) bs → number_of bs ≡ 0
all_zero [] h = refl
all_zero (b ∷ bs) h = let first = h 0 0 (omega arith) in let rest = all_zero bs (λ k d lt. h (suc k) d (omega (arith, lt))) in omega (arith, first, rest)

module _ (size head block : ℕ) where
  abbrev pub list : List ℕ
  list = to_le_bytes w64 head ++ to_le_bytes w64 block

  abbrev pub fresh_memory : List ℕ
  fresh_memory = put (zeros size) 8 list

  -- what stands from byte 8 on
  behind_eight : 24 ≤ size → drop 8 fresh_memory ≡ list ++ drop 24 (zeros size)
  unfolding put
  behind_eight le =
      let front = length-take-le 8 (zeros size) (omega (arith, length-zeros size, le)) in
      ap (λ (n : ℕ). drop n fresh_memory) (sym front) ∙ drop-append_seam (take 8 (zeros size)) (list ++ drop 24 (zeros size))

  head_word : 24 ≤ size → head < 2 ^ 64 → word fresh_memory 1 ≡ head
  unfolding word read
  head_word le lt = ap (λ (l : List ℕ). number_of (take 8 l)) (behind_eight le) ∙ number_again head lt

  block_word : 24 ≤ size → block < 2 ^ 64 → word fresh_memory 2 ≡ block
  unfolding word read
  block_word le lt =
      ap (λ (l : List ℕ). number_of (take 8 l)) (sym (drop-drop 8 8 fresh_memory) ∙ ap (drop 8) (behind_eight le)) ∙ number_again block lt

  next_word : 24 ≤ size → word fresh_memory 3 ≡ 0
  unfolding word read zeros
  next_word le =
      ap number_of (put-high (zeros size) 8 list 8 24 (omega (arith, length-zeros size, le)) (omega arith))
      ∙ all_zero (take 8 (drop 24 (zeros size))) (All-take (λ (b : ℕ). b ≡ 0) 8 (drop 24 (zeros size)) (All-drop (λ (b : ℕ). b ≡ 0) 24 (zeros size) (All-replicate (λ (b : ℕ). b ≡ 0) size 0 refl)))

  pub fresh_length : 24 ≤ size → length fresh_memory ≡ size
  fresh_length le = length-put (zeros size) 8 list (omega (arith, length-zeros size, le)) ∙ length-zeros size

pub is_fresh : (size words : ℕ) → 24 ≤ size → words < 2 ^ 64 → IsFresh words (word (fresh_memory size 24 (words - 3)))
is_fresh size words le lt = record {
  head = head_word size 24 (words - 3) le (omega arith);
  header = block_word size 24 (words - 3) le (omega (arith, lt));
  next = next_word size 24 (words - 3) le;
}
