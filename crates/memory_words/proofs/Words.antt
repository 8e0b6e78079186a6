-- Numbers and words in bytes, from what stands of the bytes.
use Rattle.std.proofs.Common.{◌≡◌, ℕ, ◌+◌, ◌*◌, ◌%◌, ◌^◌, ◌<◌, ◌≤◌, ◌≢◌, ◌⊎◌, inl, inr, List, length, take, drop, sym, ap, ◌∙◌, ⊎_elim, arith}
use Rattle.std.proofs.lemmas.Bool.{cases_order}
use Rattle.memory_words.specs.Memories.{little_endian, number_of, put, read, write, word}
use Rattle.memory_words.proofs.Bytes.{length-little_endian, number_of-little_endian, length-put, put-same, put-low, put-high}

pub length-write : (n : ℕ) (m : List ℕ) (a v : ℕ) → a + n ≤ length m → length (write n m a v) ≡ length m
unfolding write
length-write n m a v le = let e = length-little_endian n v in length-put m a (little_endian n v) (omega (arith, e, le))

pub read-write : (n : ℕ) (m : List ℕ) (a v : ℕ) → a + n ≤ length m → read n (write n m a v) a ≡ v % 2 ^ (8 * n)
unfolding read write
read-write n m a v le =
    let bs = little_endian n v in
    ap (λ (k : ℕ). number_of (take k (drop a (put m a bs)))) (sym (length-little_endian n v)) ∙ ap number_of (put-same m a bs (omega (arith, le))) ∙ number_of-little_endian n v

pub read-other : (n : ℕ) (m : List ℕ) (a v k b : ℕ) → a + n ≤ length m → (b + k ≤ a) ⊎ (a + n ≤ b) → read k (write n m a v) b ≡ read k m b
unfolding read write
read-other n m a v k b le apart =
    let bs = little_endian n v in
    let e = length-little_endian n v in
    ap number_of (⊎_elim (λ low. put-low m a bs k b (omega (arith, le)) low) (λ high. put-high m a bs k b (omega (arith, e, le)) (omega (arith, e, high))) apart)

-- a read at an address that is the word's
pub word_is : (m : List ℕ) (i a : ℕ) → 8 * i ≡ a → read 8 m a ≡ word m i
unfolding word
word_is m i a e = ap (read 8 m) (sym e)

pub word-write : (m : List ℕ) (i v : ℕ) → 8 * i + 8 ≤ length m → v < 2 ^ 64 → word (write 8 m (8 * i) v) i ≡ v
unfolding word
word-write m i v le lt = read-write 8 m (8 * i) v le ∙ omega (arith, lt)

pub word-other : (m : List ℕ) (i j v : ℕ) → 8 * i + 8 ≤ length m → j ≢ i → word (write 8 m (8 * i) v) j ≡ word m j
unfolding word
word-other m i j v le ne =
    read-other 8 m (8 * i) v 8 (8 * j) le (⊎_elim (λ e. absurd (ne e)) (λ o. ⊎_elim (λ lt. inl (omega (arith, lt))) (λ lt. inr (omega (arith, lt))) o) (cases_order j i))
