-- A number that a word writes is in its range.
use Rattle.std.proofs.Common.{◌≡◌, ◌∙◌, ℕ, zero, suc, ◌-◌, ◌^◌, ◌<◌, Bool, true, false, List, [], ◌∷◌, refl, sym, subst, arith}
use Rattle.std.specs.Prelude.{if◌then◌else◌, ◌==◌, nat_lt, nat_le}
use Rattle.std.proofs.lemmas.Bool.{ltb-true, eq-eqb, false≢true}
use Rattle.rich_text.specs.Numbers.{NumberRange, Index, Constant32, Constant64, Number, Within, OutOfRange, NoNumber, value_after, are_digits, natural_of, negative_of, signed_of, number_of}
use Rattle.rich_text.specs.Writable.{IsInRange}

within_one : (n m : ℕ) → Within n ≡ Within m → n ≡ m
within_one n m e = cc

-- a number that is below a limit, if it is one
abbrev Below : ℕ → Number → Type 0
Below limit (Within n) = n < limit
Below limit OutOfRange = Unit {0}
Below limit NoNumber = Unit {0}

below_if : (limit : ℕ) (b : Bool) (x y : Number) → (b ≡ true → Below limit x) → (b ≡ false → Below limit y) → Below limit (if b then x else y)
below_if limit true x y h g = h refl
below_if limit false x y h g = g refl

natural_below : (limit : ℕ) (w : List ℕ) → Below limit (natural_of limit w)
natural_below limit w =
    below_if limit (are_digits w) _ NoNumber
    (λ d. below_if limit (nat_lt (value_after 0 w) limit) (Within (value_after 0 w)) OutOfRange (λ e. ltb-true (value_after 0 w) limit e) (λ e. tt))
    (λ d. tt)

some_less : (v modulus : ℕ) → 0 < modulus → (v == 0) ≡ false → modulus - v < modulus
some_less zero modulus p h = absurd (false≢true (sym h ∙ eq-eqb 0 0 refl))
some_less (suc v) modulus p h = omega (arith, p)

negative_below : (least modulus : ℕ) (w : List ℕ) → 0 < modulus → Below modulus (negative_of least modulus w)
negative_below least modulus w p =
    below_if modulus (are_digits w) _ NoNumber
    (λ d. below_if modulus (value_after 0 w == 0) NoNumber _ (λ e. tt)
    (λ e. below_if modulus (nat_le (value_after 0 w) least) (Within (modulus - value_after 0 w)) OutOfRange (λ f. some_less (value_after 0 w) modulus p e) (λ f. tt)))
    (λ d. tt)

signed_below : (least modulus : ℕ) (w : List ℕ) → 0 < modulus → Below modulus (signed_of least modulus w)
signed_below least modulus [] p = tt
signed_below least modulus (b ∷ bs) p = below_if modulus (b == 45) (negative_of least modulus bs) (natural_of modulus (b ∷ bs)) (λ e. negative_below least modulus bs p) (λ e. natural_below modulus (b ∷ bs))

pub in_range : (k : NumberRange) (w : List ℕ) (n : ℕ) → number_of k w ≡ Within n → IsInRange k n
in_range Index w n e = subst (λ (r : Number). Below (2 ^ 32) r) e (signed_below 0 (2 ^ 32) w (omega arith))
in_range Constant32 w n e = subst (λ (r : Number). Below (2 ^ 32) r) e (signed_below (2 ^ 31) (2 ^ 32) w (omega arith))
in_range Constant64 w n e = subst (λ (r : Number). Below (2 ^ 64) r) e (signed_below (2 ^ 63) (2 ^ 64) w (omega arith))
