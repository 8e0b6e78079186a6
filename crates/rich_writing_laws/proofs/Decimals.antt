-- A number is written by the same digits, whichever definition counts them out.
use Rattle.std.proofs.Common.{◌≡◌, ◌∙◌, ℕ, zero, suc, ◌+◌, ◌-◌, ◌*◌, ◌/◌, ◌%◌, ◌^◌, ◌<◌, ◌≤◌, List, [], ◌∷◌, ◌++◌, sym, ap, append_assoc, append-nil, arith}
use Rattle.std.specs.Prelude.{if◌then◌else◌, nat_lt, decimal}
use Rattle.std.proofs.Math.Nat.{pow-suc}
use Rattle.std.proofs.lemmas.Bool.{cond-true, cond-false, lt-ltb, le-ltb}
use Rattle.std.proofs.lemmas.Fmt.{decimal_by_steps_wide}
use Rattle.rich_text.specs.Numbers.{NumberRange, Index, Constant32, Constant64}
use Rattle.rich_text.specs.Canonical.{digits_from, decimal_word, number_word}
use Rattle.rich_text.specs.Writable.{IsInRange}
use Rattle.rich_writing.specs.Pieces.{signed_text}

tenth_below : (fuel n : ℕ) → n < 10 ^ suc fuel → n / 10 < 10 ^ fuel
tenth_below fuel n h = let e : 10 ^ suc fuel ≡ 10 ^ fuel * 10 = pow-suc 10 fuel in omega arith

-- digits that are counted out before others
abbrev Counts : ℕ → List ℕ → Type 0
Counts n ds = (fuel : ℕ) (rest : List ℕ) → n < 10 ^ suc fuel → digits_from (suc fuel) n rest ≡ ds ++ rest

counts_one : (n : ℕ) → n < 10 → Counts n ((48 + n) ∷ [])
counts_one n h fuel rest g = cond-true (nat_lt n 10) ((48 + n) ∷ rest) (digits_from fuel (n / 10) ((48 + n % 10) ∷ rest)) (lt-ltb n 10 h)

counts_more : (n : ℕ) (ds : List ℕ) → 10 ≤ n → Counts (n / 10) ds → Counts n (ds ++ ((48 + n % 10) ∷ []))
counts_more n ds h c zero rest g = absurd (omega arith)
counts_more n ds h c (suc fuel) rest g =
    cond-false (nat_lt n 10) ((48 + n) ∷ rest) (digits_from (suc fuel) (n / 10) ((48 + n % 10) ∷ rest)) (le-ltb n 10 h)
    ∙ c fuel ((48 + n % 10) ∷ rest) (tenth_below (suc fuel) n g)
    ∙ sym (append_assoc ds ((48 + n % 10) ∷ []) rest)

same_decimal : (n : ℕ) → n < 10 ^ 20 → decimal_word n ≡ decimal n
same_decimal n h = decimal_by_steps_wide Counts counts_one counts_more n (omega arith) 19 [] h ∙ append-nil (decimal n)

-- the text of a number in its range
abbrev pub number_text : NumberRange → ℕ → List ℕ
number_text Index n = decimal n
number_text Constant32 n = signed_text 32 n
number_text Constant64 n = signed_text 64 n

pub same_number : (k : NumberRange) (n : ℕ) → IsInRange k n → number_word k n ≡ number_text k n
same_number Index n h = same_decimal n (omega arith)
same_number Constant32 n h =
    ap (λ (d : List ℕ). if nat_lt n (2 ^ 31) then d else 45 ∷ decimal_word (2 ^ 32 - n)) (same_decimal n (omega arith))
    ∙ ap (λ (d : List ℕ). if nat_lt n (2 ^ 31) then decimal n else 45 ∷ d) (same_decimal (2 ^ 32 - n) (omega arith))
same_number Constant64 n h =
    ap (λ (d : List ℕ). if nat_lt n (2 ^ 63) then d else 45 ∷ decimal_word (2 ^ 64 - n)) (same_decimal n (omega arith))
    ∙ ap (λ (d : List ℕ). if nat_lt n (2 ^ 63) then decimal n else 45 ∷ d) (same_decimal (2 ^ 64 - n) (omega arith))
