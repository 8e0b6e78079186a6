-- The words of memories of bytes tell them, eight bytes at a time.
use Rattle.std.proofs.Common.{◌≡◌, ◌∙◌, ℕ, zero, suc, ◌+◌, ◌*◌, List, [], ◌∷◌, ◌++◌, length, take, drop, refl, sym, ap, arith, length-drop, drop-drop}
use Rattle.std.proofs.lemmas.List.{length-take-le, take-append-drop}
use Rattle.std.proofs.lemmas.List.Elements.{All-take, All-drop}
use Rattle.memory_words.specs.Memories.{number_of, read, word}
use Rattle.memory_bytes.specs.Bytes.{AreBytes}
use Rattle.memory_bytes.specs.Laws.{WordsTellBytes}
use Rattle.memory_bytes.proofs.Bytes.{IsByte, all_head, all_tail}

-- as many bytes that spell the same number are the same
same_bytes : (xs ys : List ℕ) → length xs ≡ length ys → AreBytes xs → AreBytes ys → number_of xs ≡ number_of ys → xs ≡ ys
same_bytes [] [] l h k e = refl
same_bytes [] (y ∷ ys) l h k e = absurd (omega (arith, l))
same_bytes (x ∷ xs) [] l h k e = absurd (omega (arith, l))
same_bytes (x ∷ xs) (y ∷ ys) l h k e =
    let low = all_head IsByte x xs h in
    let other = all_head IsByte y ys k in
    let first : x ≡ y = omega (arith, e, low, other) in
    let rest : number_of xs ≡ number_of ys = omega (arith, e, low, other) in
    let same = same_bytes xs ys (omega (arith, l)) (all_tail IsByte x xs h) (all_tail IsByte y ys k) rest in
    λ i. first i ∷ same i

-- a word behind the first eight bytes
word_behind : (m : List ℕ) (i : ℕ) → word (drop 8 m) i ≡ word m (suc i)
unfolding word read
word_behind m i = let e : 8 + 8 * i ≡ 8 * suc i = omega arith in ap (λ (l : List ℕ). number_of (take 8 l)) (drop-drop (8 * i) 8 m ∙ ap (λ (n : ℕ). drop n m) e)

first_word : (m : List ℕ) → word m 0 ≡ number_of (take 8 m)
unfolding word read
first_word m = refl

pub words_tell_bytes : WordsTellBytes
words_tell_bytes zero [] [] l k h g w = refl
words_tell_bytes zero (x ∷ xs) ys l k h g w = absurd (omega (arith, l))
words_tell_bytes zero [] (y ∷ ys) l k h g w = absurd (omega (arith, k))
words_tell_bytes (suc n) xs ys l k h g w =
    let long = length-take-le 8 xs (omega (arith, l)) in
    let other = length-take-le 8 ys (omega (arith, k)) in
    let behind = length-drop 8 xs in
    let other_behind = length-drop 8 ys in
    let front : take 8 xs ≡ take 8 ys = same_bytes (take 8 xs) (take 8 ys) (omega (arith, long, other)) (All-take IsByte 8 xs h) (All-take IsByte 8 ys g) (sym (first_word xs) ∙ w 0 (omega arith) ∙ first_word ys) in
    let rest : drop 8 xs ≡ drop 8 ys = words_tell_bytes n (drop 8 xs) (drop 8 ys) (omega (arith, behind, l)) (omega (arith, other_behind, k)) (All-drop IsByte 8 xs h) (All-drop IsByte 8 ys g)
    (λ i lt. word_behind xs i ∙ w (suc i) (omega (arith, lt)) ∙ sym (word_behind ys i)) in
    sym (take-append-drop 8 xs) ∙ (λ i. front i ++ rest i) ∙ take-append-drop 8 ys
