-- What is put into a memory of bytes, written there and added behind it leaves a memory of bytes.
use Rattle.std.proofs.Common.{ℕ, zero, suc, ◌+◌, ◌/◌, ◌%◌, ◌<◌, List, ◌∷◌, ◌++◌, length, take, drop, arith}
use Rattle.std.specs.Prelude.{All}
use Rattle.std.proofs.lemmas.List.Elements.{All-append, All-take, All-drop, All-replicate}
use Rattle.memory_words.specs.Memories.{little_endian, zeros, put, write}
use Rattle.memory_bytes.specs.Bytes.{AreBytes}

abbrev pub IsByte : ℕ → Type 0
IsByte b = b < 256

pub all_cons : {X : Type 0} (P : X → Type 0) (x : X) (xs : List X) → P x → All P xs → All P (x ∷ xs)
all_cons P x xs h k zero d lt = h
all_cons P x xs h k (suc j) d lt = k j d (omega (arith, lt))

pub all_head : {X : Type 0} (P : X → Type 0) (x : X) (xs : List X) → All P (x ∷ xs) → P x
all_head P x xs h = h 0 x (omega arith)

pub all_tail : {X : Type 0} (P : X → Type 0) (x : X) (xs : List X) → All P (x ∷ xs) → All P xs
all_tail P x xs h j d lt = h (suc j) d (omega (arith, lt))

pub put_keeps : (m : List ℕ) (a : ℕ) (bs : List ℕ) → AreBytes m → AreBytes bs → AreBytes (put m a bs)
unfolding put
put_keeps m a bs h k =
    All-append IsByte (take a m) (bs ++ drop (a + length bs) m) (All-take IsByte a m h)
    (All-append IsByte bs (drop (a + length bs) m) k (All-drop IsByte (a + length bs) m h))

written_bytes : (n v : ℕ) → AreBytes (little_endian n v)
written_bytes zero v = λ j d lt. absurd (omega (arith, lt))
written_bytes (suc n) v = all_cons IsByte (v % 256) (little_endian n (v / 256)) (omega arith) (written_bytes n (v / 256))

pub write_keeps : (n : ℕ) (m : List ℕ) (a v : ℕ) → AreBytes m → AreBytes (write n m a v)
unfolding write
write_keeps n m a v h = put_keeps m a (little_endian n v) h (written_bytes n v)

pub zeros_are : (n : ℕ) → AreBytes (zeros n)
unfolding zeros
zeros_are n = All-replicate IsByte n 0 (omega arith)

pub growth_keeps : (m : List ℕ) (n : ℕ) → AreBytes m → AreBytes (m ++ zeros n)
growth_keeps m n h = All-append IsByte m (zeros n) h (zeros_are n)
