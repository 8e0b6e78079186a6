-- The numbers that bytes spell, and the bytes of a number, as sums and quotients that the code computes.
use Rattle.std.proofs.Common.{◌≡◌, ℕ, zero, suc, ◌+◌, ◌-◌, ◌*◌, ◌/◌, ◌%◌, ◌^◌, ◌<◌, ◌≤◌, List, ◌∷◌, ◌++◌, length, take, drop, get_or, replicate, refl, sym, ap, ◌∙◌, arith, add-one, drop-cons}
use Rattle.std.proofs.lemmas.List.{take_all}
use Rattle.std.proofs.Math.Nat.{div-div-eq-div-mul, pow-suc}
use borrow.Rule.Slice.PartMut.{put_mid, post_of, Post-is}
use Rattle.std.specs.Int.{bytes_low_first, byte_at}
use Rattle.memory_words.specs.Memories.{little_endian, number_of, zeros, put, read, write}

-- the first byte and the others
number_of-first : (n : ℕ) (m : List ℕ) (a : ℕ) → a < length m → number_of (take (suc n) (drop a m)) ≡ get_or m a 0 + 256 * number_of (take n (drop (a + 1) m))
number_of-first n m a lt = rw (add-one, drop-cons m a 0 lt) refl

-- the same at a place that is told by how far it is from another
at : (n : ℕ) (m : List ℕ) (a k j : ℕ) → k + 1 ≡ j → a + k < length m → number_of (take (suc n) (drop (a + k) m)) ≡ get_or m (a + k) 0 + 256 * number_of (take n (drop (a + j) m))
at n m a k j e lt =
    let next : a + k + 1 ≡ a + j = omega (arith, e) in
    number_of-first n m (a + k) lt ∙ ap (λ (i : ℕ). get_or m (a + k) 0 + 256 * number_of (take n (drop i m))) next

pub read-1 : (m : List ℕ) (a : ℕ) → a + 1 ≤ length m → read 1 m a ≡ get_or m a 0
unfolding read
read-1 m a le = let e = number_of-first 0 m a (omega arith) in omega (arith, e)

pub read-2 : (m : List ℕ) (a : ℕ) → a + 2 ≤ length m → read 2 m a ≡ get_or m a 0 + get_or m (a + 1) 0 * 256
unfolding read
read-2 m a le =
    let e0 = number_of-first 1 m a (omega arith) in
    let e1 = at 0 m a 1 2 refl (omega arith) in
    omega (arith, e0, e1)

pub read-4 : (m : List ℕ) (a : ℕ) → a + 4 ≤ length m → read 4 m a ≡ get_or m a 0 + get_or m (a + 1) 0 * 256 + get_or m (a + 2) 0 * 65536 + get_or m (a + 3) 0 * 16777216
unfolding read
read-4 m a le =
    let e0 = number_of-first 3 m a (omega arith) in
    let e1 = at 2 m a 1 2 refl (omega arith) in
    let e2 = at 1 m a 2 3 refl (omega arith) in
    let e3 = at 0 m a 3 4 refl (omega arith) in
    omega (arith, e0, e1, e2, e3)

pub read-8 : (m : List ℕ) (a : ℕ) → a + 8 ≤ length m →
    read 8 m a ≡ get_or m a 0 + get_or m (a + 1) 0 * 256 + get_or m (a + 2) 0 * 65536 + get_or m (a + 3) 0 * 16777216 + get_or m (a + 4) 0 * 4294967296
    + get_or m (a + 5) 0 * 1099511627776 + get_or m (a + 6) 0 * 281474976710656 + get_or m (a + 7) 0 * 72057594037927936
unfolding read
read-8 m a le =
    let e0 = number_of-first 7 m a (omega arith) in
    let e1 = at 6 m a 1 2 refl (omega arith) in
    let e2 = at 5 m a 2 3 refl (omega arith) in
    let e3 = at 4 m a 3 4 refl (omega arith) in
    let e4 = at 3 m a 4 5 refl (omega arith) in
    let e5 = at 2 m a 5 6 refl (omega arith) in
    let e6 = at 1 m a 6 7 refl (omega arith) in
    let e7 = at 0 m a 7 8 refl (omega arith) in
    omega (arith, e0, e1, e2, e3, e4, e5, e6, e7)

-- the bytes that the code takes of a number are its least ones
quotient : (i v : ℕ) → v / 256 ^ i / 256 ≡ v / 256 ^ suc i
quotient i v = div-div-eq-div-mul v (256 ^ i) 256 ∙ ap (λ (k : ℕ). v / k) (sym (pow-suc 256 i))

byte : (i v : ℕ) → byte_at i v ≡ v / 256 ^ i % 256
byte zero v = omega arith
byte (suc i) v = refl

pub bytes-low : (k i v : ℕ) → bytes_low_first i k v ≡ little_endian k (v / 256 ^ i)
bytes-low zero i v = refl
bytes-low (suc k) i v = rw (byte i v) (ap (λ (l : List ℕ). v / 256 ^ i % 256 ∷ l) (bytes-low k (suc i) v ∙ ap (little_endian k) (sym (quotient i v))))

pub zeros-are : (n k : ℕ) → n ≡ k → replicate n 0 ≡ zeros k
unfolding zeros
zeros-are n k e = ap (λ (i : ℕ). replicate i 0) e

length-little_endian : (n v : ℕ) → length (little_endian n v) ≡ n
length-little_endian zero v = refl
length-little_endian (suc n) v = let e = length-little_endian n (v / 256) in omega (arith, e)

-- what a copy of a number's low bytes into the place of as many leaves
pub write-is : (k : ℕ) (m : List ℕ) (a v : ℕ) (bs : List ℕ) → bs ≡ bytes_low_first 0 k v → put_mid a (a + k - a) m bs ≡ write k m a v
unfolding write put
write-is k m a v bs e =
    let low : bs ≡ little_endian k v = e ∙ bytes-low k 0 v ∙ ap (little_endian k) (omega arith) in
    let long : length (little_endian k v) ≡ k = length-little_endian k v in
    ap (λ (l : List ℕ). take a m ++ (l ++ post_of a (a + k - a) m)) low
    ∙ ap (λ (l : List ℕ). take a m ++ (little_endian k v ++ l)) (Post-is a (a + k) m (omega arith) ∙ ap (λ (n : ℕ). drop (a + n) m) (sym long))

-- what a copy into the place of as many leaves
pub put-is : (m : List ℕ) (a : ℕ) (from bs : List ℕ) → bs ≡ from → put_mid a (a + length from - a) m bs ≡ put m a from
unfolding put
put-is m a from bs e =
    ap (λ (l : List ℕ). take a m ++ (l ++ post_of a (a + length from - a) m)) e
    ∙ ap (λ (l : List ℕ). take a m ++ (from ++ l)) (Post-is a (a + length from) m (omega arith))

-- zeros behind a memory
pub grown-is : (m : List ℕ) (n len long : ℕ) → len ≡ length m → long ≡ length m → take (len + n * 65536) m ++ replicate (len + n * 65536 - long) 0 ≡ m ++ zeros (65536 * n)
unfolding zeros
grown-is m n len long e f =
    ap (λ (l : List ℕ). l ++ replicate (len + n * 65536 - long) 0) (take_all (len + n * 65536) m (omega arith))
    ∙ ap (λ (k : ℕ). m ++ replicate k 0) (omega (arith, e, f))
