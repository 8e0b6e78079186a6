-- What a write leaves and what is read after it, by the bytes before it, in it and behind it.
use Rattle.std.proofs.Common.{◌≡◌, ℕ, zero, suc, ◌+◌, ◌-◌, ◌*◌, ◌/◌, ◌%◌, ◌^◌, ◌≤◌, List, ◌++◌, length, take, drop, refl, sym, ap, ◌∙◌, arith, length-append, length-drop}
use Rattle.std.proofs.lemmas.Nat.{mod-pow-add}
use Rattle.std.proofs.lemmas.List.{length-take-le, length-replicate, take-append-drop, take-append-le, drop-append-le}
use Rattle.std.proofs.Math.Seq.{drop-append_seam, take-append_seam, drop-append-add}
use Rattle.memory_words.specs.Memories.{little_endian, number_of, zeros, put}

pub length-zeros : (n : ℕ) → length (zeros n) ≡ n
unfolding zeros
length-zeros n = length-replicate n 0

pub length-little_endian : (n v : ℕ) → length (little_endian n v) ≡ n
length-little_endian zero v = refl
length-little_endian (suc n) v = let e = length-little_endian n (v / 256) in omega (arith, e)

pub number_of-little_endian : (n v : ℕ) → number_of (little_endian n v) ≡ v % 2 ^ (8 * n)
number_of-little_endian zero v = omega arith
number_of-little_endian (suc n) v =
    let e = number_of-little_endian n (v / 256) in
    let f : v % 2 ^ (8 * n + 8) ≡ (v / 2 ^ 8 % 2 ^ (8 * n)) * 2 ^ 8 + v % 2 ^ 8 = mod-pow-add v (8 * n) 8 in
    let g : 8 * suc n ≡ 8 * n + 8 = omega arith in
    let h : v % 256 + 256 * (v / 256 % 2 ^ (8 * n)) ≡ (v / 256 % 2 ^ (8 * n)) * 256 + v % 256 = omega arith in
    ap (λ (k : ℕ). v % 256 + 256 * k) e ∙ h ∙ sym f ∙ ap (λ (k : ℕ). v % 2 ^ k) (sym g)

pub length-put : (m : List ℕ) (a : ℕ) (bs : List ℕ) → a + length bs ≤ length m → length (put m a bs) ≡ length m
unfolding put
length-put m a bs le =
    let e = length-append (take a m) (bs ++ drop (a + length bs) m) in
    let f = length-append bs (drop (a + length bs) m) in
    let g = length-take-le a m (omega (arith, le)) in
    let h = length-drop (a + length bs) m in
    omega (arith, e, f, g, h, le)

-- the bytes that were put
pub put-same : (m : List ℕ) (a : ℕ) (bs : List ℕ) → a ≤ length m → take (length bs) (drop a (put m a bs)) ≡ bs
unfolding put
put-same m a bs le =
    let front = take a m in
    let rest = bs ++ drop (a + length bs) m in
    let g : length front ≡ a = length-take-le a m le in
    let e : drop a (front ++ rest) ≡ rest = ap (λ n. drop n (front ++ rest)) (sym g) ∙ drop-append_seam front rest in
    ap (take (length bs)) e ∙ take-append_seam bs (drop (a + length bs) m)

low_part : (xs ys : List ℕ) (k b : ℕ) → b + k ≤ length xs → take k (drop b (xs ++ ys)) ≡ take k (drop b xs)
low_part xs ys k b le =
    let h = length-drop b xs in
    ap (take k) (drop-append-le b xs ys (omega (arith, le))) ∙ take-append-le k (drop b xs) ys (omega (arith, h, le))

-- the bytes before those that were put
pub put-low : (m : List ℕ) (a : ℕ) (bs : List ℕ) (k b : ℕ) → a ≤ length m → b + k ≤ a → take k (drop b (put m a bs)) ≡ take k (drop b m)
unfolding put
put-low m a bs k b le before =
    let g = length-take-le a m le in
    low_part (take a m) (bs ++ drop (a + length bs) m) k b (omega (arith, g, before)) ∙ sym (low_part (take a m) (drop a m) k b (omega (arith, g, before)))
    ∙ ap (λ (l : List ℕ). take k (drop b l)) (take-append-drop a m)

high_part : (xs ys zs : List ℕ) (b : ℕ) → length xs + length ys ≤ b → drop b (xs ++ (ys ++ zs)) ≡ drop (b - (length xs + length ys)) zs
high_part xs ys zs b le =
    let n = b - (length xs + length ys) in
    let e : b ≡ length xs + (length ys + n) = omega (arith, le) in
    ap (λ i. drop i (xs ++ (ys ++ zs))) e ∙ drop-append-add xs (ys ++ zs) (length ys + n) ∙ drop-append-add ys zs n

-- the bytes behind those that were put
pub put-high : (m : List ℕ) (a : ℕ) (bs : List ℕ) (k b : ℕ) → a + length bs ≤ length m → a + length bs ≤ b → take k (drop b (put m a bs)) ≡ take k (drop b m)
unfolding put
put-high m a bs k b le behind =
    let over = a + length bs in
    let z = drop over m in
    let n = b - over in
    let g = length-take-le a m (omega (arith, le)) in
    let h = length-take-le over m le in
    let e1 : b - (length (take a m) + length bs) ≡ n = omega (arith, g) in
    let e2 : length (take over m) + n ≡ b = omega (arith, h, behind) in
    let w1 = high_part (take a m) bs z b (omega (arith, g, behind)) in
    let w2 = drop-append-add (take over m) z n in
    ap (take k) (w1 ∙ ap (λ i. drop i z) e1 ∙ sym w2 ∙ ap (λ i. drop i (take over m ++ z)) e2 ∙ ap (drop b) (take-append-drop over m))
