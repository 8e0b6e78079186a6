use Rattle.std.proofs.Common.{◌≡◌, ◌∙◌, ℕ, zero, suc, ◌+◌, ◌-◌, ◌*◌, ◌/◌, ◌%◌, ◌^◌, ◌<◌, ◌≤◌, [], ◌∷◌, sym, ap, arith, leb}
use Rattle.std.specs.Prelude.{min}
use Rattle.std.proofs.lemmas.Bool.{cond_below, cond_above, cond-true, cond-false, le-leb, lt-leb}
use Rattle.std.proofs.lemmas.Nat.{shl-shr, shr_below, pow-add}
use Rattle.wasm_leb.specs.Leb.{unsigned_least, signed_least}

pred : (k : ℕ) → suc k - 1 ≡ k
pred k = omega arith

pub unsigned_last : (k n : ℕ) → 0 < k → n < 128 → unsigned_least k n ≡ n ∷ []
unsigned_last zero n h l = absurd (omega arith)
unsigned_last (suc k) n h l = sym (cond_below n 128 (n ∷ []) ((n % 128 + 128) ∷ unsigned_least k (n / 128)) l)

pub unsigned_more : (k n : ℕ) → 0 < k → 128 ≤ n → unsigned_least k n ≡ (n % 128 + 128) ∷ unsigned_least (k - 1) (n / 128)
unsigned_more zero n h l = absurd (omega arith)
unsigned_more (suc k) n h l =
    sym (cond_above n 128 (n ∷ []) ((n % 128 + 128) ∷ unsigned_least k (n / 128)) _ l (ap (λ j. (n % 128 + 128) ∷ unsigned_least j (n / 128)) (pred k)))

pub signed_last : (k limit n : ℕ) → 0 < k → 2 * n < min 128 limit → signed_least k limit n ≡ n ∷ []
signed_last zero limit n h l = absurd (omega arith)
signed_last (suc k) limit n h l = sym (cond_below (2 * n) (min 128 limit) (n ∷ []) _ l)

pub signed_negative : (k limit n : ℕ) → 0 < k → min 128 limit ≤ 2 * n → limit ≤ n + 64 → signed_least k limit n ≡ (n + 128 - limit) ∷ []
signed_negative zero limit n h l m = absurd (omega arith)
signed_negative (suc k) limit n h l m =
    sym (cond_above (2 * n) (min 128 limit) (n ∷ []) _ _ l (sym (cond-true (leb limit (n + 64)) ((n + 128 - limit) ∷ []) ((n % 128 + 128) ∷ signed_least k (limit / 128) (n / 128)) (le-leb _ _ m))))

pub signed_more : (k limit n : ℕ) → 0 < k → min 128 limit ≤ 2 * n → n + 64 < limit → signed_least k limit n ≡ (n % 128 + 128) ∷ signed_least (k - 1) (limit / 128) (n / 128)
signed_more zero limit n h l m = absurd (omega arith)
signed_more (suc k) limit n h l m =
    sym (cond_above (2 * n) (min 128 limit) (n ∷ []) _ _ l (ap (λ j. (n % 128 + 128) ∷ signed_least j (limit / 128) (n / 128)) (pred k)
    ∙ sym (cond-false (leb limit (n + 64)) ((n + 128 - limit) ∷ []) ((n % 128 + 128) ∷ signed_least k (limit / 128) (n / 128)) (lt-leb _ _ m))))

pub ruleset steps = (unsigned_last, unsigned_more, signed_last, signed_negative, signed_more)

split7 : (bits : ℕ) → 7 ≤ bits → bits ≡ bits - 7 + 7
split7 bits h = omega arith

pub narrower : (bits : ℕ) → 7 ≤ bits → 2 ^ bits / 128 ≡ 2 ^ (bits - 7)
narrower bits h = ap (λ b. 2 ^ b / 128) (split7 bits h) ∙ ap (λ z. z / 128) (pow-add 2 (bits - 7) 7) ∙ shl-shr (2 ^ (bits - 7)) 7

pub wide : (bits n : ℕ) → n + 64 < 2 ^ bits → 7 ≤ bits
wide zero n k = absurd (omega arith)
wide (suc zero) n k = absurd (omega arith)
wide (suc (suc zero)) n k = absurd (omega arith)
wide (suc (suc (suc zero))) n k = absurd (omega arith)
wide (suc (suc (suc (suc zero)))) n k = absurd (omega arith)
wide (suc (suc (suc (suc (suc zero))))) n k = absurd (omega arith)
wide (suc (suc (suc (suc (suc (suc zero)))))) n k = absurd (omega arith)
wide (suc (suc (suc (suc (suc (suc (suc b))))))) n k = omega arith

rest_fits : (bits n : ℕ) → 7 ≤ bits → n < 2 ^ bits → n / 128 < 2 ^ (bits - 7)
rest_fits bits n h k = shr_below n (bits - 7) 7 (rw (← split7 bits h) k)

pub wide_limit : (bits limit n : ℕ) → limit ≡ 2 ^ bits → n + 64 < limit → 7 ≤ bits
wide_limit bits limit n e k = wide bits n (rw (← e) k)

pub narrower_limit : (bits limit : ℕ) → limit ≡ 2 ^ bits → 7 ≤ bits → limit / 128 ≡ 2 ^ (bits - 7)
narrower_limit bits limit e h = ap (λ z. z / 128) e ∙ narrower bits h

pub rest_limit : (bits limit n : ℕ) → limit ≡ 2 ^ bits → 7 ≤ bits → n < limit → n / 128 < limit / 128
rest_limit bits limit n e h k = rw (narrower_limit bits limit e h) (rest_fits bits n h (rw e at k))
