-- The counts over the list of an integer's digits are those that std gives: by induction on how many digits there are.
use Rattle.std.proofs.Common.{◌≡◌, ℕ, zero, suc, ◌+◌, ◌*◌, ◌/◌, ◌%◌, ◌^◌, ◌<◌, ◌≤◌, List, [], ◌∷◌, ◌++◌, refl, sym, ◌∙◌, ap, inl, inr, arith}
use Rattle.std.specs.Prelude.{reverse}
use Rattle.std.proofs.Math.Nat.{div-one, div-eq_of_lt, pow-suc}
use Rattle.std.proofs.Math.Numerals.{one-add}
use Rattle.std.proofs.lemmas.Nat.{shr-shr, leading_length, pow_pos, le-div, div_below}
use Rattle.std.proofs.lemmas.List.{reverse-append}
use Rattle.std.proofs.lemmas.Bool.{cases_lt}
use Rattle.std.specs.Int.Count.{ones_in, ones, ones_step, count_trailing_zeros, count_leading_zeros, leading_unique, under}
use Rattle.wasm_operators.specs.declared.Width.{Width}
use Rattle.wasm_num.specs.Widths.{bits_of, IsWithin}
use Rattle.wasm_num.specs.Counts as counts
use Rattle.wasm_num.specs.Counts.{digits_of, zeros_first, ones_among, leading_zeros, trailing_zeros}

half_below : (k n : ℕ) → n < 2 ^ suc k → n / 2 < 2 ^ k
half_below k n h = let e : 2 ^ suc k ≡ 2 ^ k * 2 = pow-suc 2 k in omega arith

ones-zero : (n : ℕ) → n ≡ 0 → ones n ≡ 0
unfolding ones ones_in
ones-zero n e = ap ones e

pub ones-ones_among : (k n : ℕ) → n < 2 ^ k → ones n ≡ ones_among (digits_of k n)
ones-ones_among zero n h = ones-zero n (omega arith)
ones-ones_among (suc k) n h = ones_step n ∙ ap (λ x. n % 2 + x) (ones-ones_among k (n / 2) (half_below k n h))

under-zeros_first : (digit t : ℕ) (digits : List ℕ) → t ≡ zeros_first digits → under digit t ≡ zeros_first (digit ∷ digits)
under-zeros_first zero t digits e = ap suc e
under-zeros_first (suc digit) t digits e = refl

pub trailing-zeros_first : (k n : ℕ) → count_trailing_zeros k n ≡ zeros_first (digits_of k n)
unfolding count_trailing_zeros
trailing-zeros_first zero n = refl
trailing-zeros_first (suc k) n = under-zeros_first (n % 2) _ (digits_of k (n / 2)) (trailing-zeros_first k (n / 2))

-- the highest digit stands last
digits_of-last : (k n : ℕ) → digits_of (suc k) n ≡ digits_of k n ++ (n / 2 ^ k % 2 ∷ [])
digits_of-last zero n = ap (λ x. x % 2 ∷ []) (sym (div-one n))
digits_of-last (suc k) n =
    ap (λ digits. n % 2 ∷ digits) (digits_of-last k (n / 2))
    ∙ ap (λ x. n % 2 ∷ (digits_of k (n / 2) ++ (x % 2 ∷ []))) (shr-shr n 1 k ∙ ap (λ j. n / 2 ^ j) (one-add k))

-- one digit more above a number
leading-above : (k n : ℕ) → n < 2 ^ k → suc (count_leading_zeros k n) ≡ count_leading_zeros (suc k) n
leading-above k n h =
    let t = leading_length k n h in
    let e : count_leading_zeros k n + t.0 ≡ k = t.1 in
    leading_unique (suc k) n (suc (count_leading_zeros k n)) t.0 (omega arith) t.2 t.3

-- the highest digit is 1
leading-none : (k n : ℕ) → n < 2 ^ suc k → 2 ^ k ≤ n → 0 ≡ count_leading_zeros (suc k) n
leading-none k n h g =
    let e : 2 ^ suc k ≡ 2 ^ k * 2 = pow-suc 2 k in
    leading_unique (suc k) n 0 (suc k) (omega arith) h (omega arith)

highest_one : (k n : ℕ) → n < 2 ^ suc k → 2 ^ k ≤ n → n / 2 ^ k ≡ 1
highest_one k n h g =
    let e : 2 ^ suc k ≡ 2 ^ k * 2 = pow-suc 2 k in
    let up : n / 2 ^ k < 2 = div_below n (2 ^ k) 2 (pow_pos k) (omega arith) in
    let low : 1 ≤ n / 2 ^ k = le-div 1 n (2 ^ k) (pow_pos k) (omega arith) in
    omega arith

-- by the highest digit
leading-highest : (k n : ℕ) → n < 2 ^ suc k → (n < 2 ^ k → count_leading_zeros k n ≡ zeros_first (reverse (digits_of k n))) → zeros_first (n / 2 ^ k % 2 ∷ reverse (digits_of k n)) ≡ count_leading_zeros (suc k) n
leading-highest k n h below =
    elim (cases_lt n (2 ^ k)) [
      | inl g ↦ ap (λ x. zeros_first (x % 2 ∷ reverse (digits_of k n))) (div-eq_of_lt g) ∙ ap suc (sym (below g)) ∙ leading-above k n g
      | inr g ↦ ap (λ x. zeros_first (x % 2 ∷ reverse (digits_of k n))) (highest_one k n h g) ∙ leading-none k n h g
    ]

pub leading-zeros_first : (k n : ℕ) → n < 2 ^ k → count_leading_zeros k n ≡ zeros_first (reverse (digits_of k n))
unfolding count_leading_zeros
leading-zeros_first zero n h = refl
leading-zeros_first (suc k) n h =
    sym
    (ap (λ digits. zeros_first (reverse digits)) (digits_of-last k n)
    ∙ ap zeros_first (reverse-append (digits_of k n) (n / 2 ^ k % 2 ∷ []))
    ∙ leading-highest k n h (leading-zeros_first k n))

-- the same at a width
pub leading-at : (w v : Width) (n r : ℕ) → w ≡ v → IsWithin w n → r ≡ count_leading_zeros (bits_of v) n → r ≡ leading_zeros w n
leading-at w v n r e h f = f ∙ ap (λ u. count_leading_zeros (bits_of u) n) (sym e) ∙ leading-zeros_first (bits_of w) n h

pub trailing-at : (w v : Width) (n r : ℕ) → w ≡ v → r ≡ count_trailing_zeros (bits_of v) n → r ≡ trailing_zeros w n
trailing-at w v n r e f = f ∙ ap (λ u. count_trailing_zeros (bits_of u) n) (sym e) ∙ trailing-zeros_first (bits_of w) n

pub ones-at : (w : Width) (n r : ℕ) → IsWithin w n → r ≡ ones n → r ≡ counts.ones w n
ones-at w n r h f = f ∙ ones-ones_among (bits_of w) n h
