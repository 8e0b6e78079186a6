-- How a number in the middle takes a byte, and that its parts keep their bounds: by the definition of a number, and
-- by 2 ^ bits being 128 times 2 ^ (bits - 7).
use Rattle.std.proofs.Common.{◌≡◌, ◌∙◌, ℕ, suc, ◌+◌, ◌-◌, ◌*◌, ◌/◌, ◌^◌, ◌<◌, ◌≤◌, Bool, true, false, Option, Some, ap, arith, ltb}
use Rattle.std.proofs.Math.Nat.{mul-le-mul_left}
use Rattle.std.proofs.Math.Pow.{pow_mono}
use Rattle.std.proofs.lemmas.Nat.{pow-add}
use Rattle.std.proofs.lemmas.Bool.{cond-true, cond-false, lt-ltb, le-ltb}
use Rattle.std.proofs.lemmas.Bool.Decides.{nat_tests}
use Rattle.wasm_leb.proofs.Least.{narrower}
use Rattle.wasm_reading.specs.Readers.{◌>>=◌, give, byte_at}
use Rattle.wasm_reading.specs.ReadValues.{number_at, unsigned_end, signed_end}
use Rattle.wasm_items.specs.LebStates.{LebState, number_end, bits_at, number_behind, rest_of_leb}
use Rattle.wasm_items.specs.Residuals.{Takes}
use Rattle.wasm_items.proofs.ReaderLaws.{then_give, then_then, then_same}
use Rattle.wasm_items.proofs.Taking.{takes_byte, takes_here, takes_then, takes_as}

takes_number : (end_of : ℕ → ℕ → Option ℕ) (most limit b at : ℕ) → Takes (number_at end_of (suc most) limit) b at (number_behind end_of most limit at b)
takes_number end_of most limit b at =
    takes_here (λ place. byte_at >>= number_behind end_of most limit place) (takes_byte b at (number_behind end_of most limit at))

unsigned_below : (limit b n : ℕ) → Some n ≡ unsigned_end limit b → n < limit
unsigned_below limit b n e = grind (arith, nat_tests)

signed_below : (limit b n : ℕ) → b < 128 → Some n ≡ signed_end limit b → n < limit
signed_below limit b n h e = grind (arith, nat_tests)

pub end_below : (is_signed : Bool) (limit b n : ℕ) → b < 128 → Some n ≡ number_end is_signed limit b → n < limit
end_below false limit b n h e = unsigned_below limit b n e
end_below true limit b n h e = signed_below limit b n h e

-- A last digit below the limit gives a number below the bound.
pub last_below : (sum scale limit n : ℕ) → sum < scale → n < limit → sum + scale * n < scale * limit
last_below sum scale limit n h l =
    let k : n + 1 ≤ limit = omega arith in
    omega (arith, mul-le-mul_left scale k)

split7 : (bits : ℕ) → 7 < bits → bits ≡ bits - 7 + 7
split7 bits h = omega arith

pub more_bits : (bits : ℕ) → 7 < bits → 2 ^ bits ≡ 2 ^ (bits - 7) * 128
more_bits bits h = ap (λ b. 2 ^ b) (split7 bits h) ∙ pow-add 2 (bits - 7) 7

pub same_bound : (scale bits : ℕ) → 7 < bits → scale * 128 * 2 ^ (bits - 7) ≡ scale * 2 ^ bits
same_bound scale bits h = rw (more_bits bits h) (omega arith)

-- Behind a byte that is not the last one the parts are in their bounds.
pub more_below : (sum scale bits b : ℕ) → sum < scale → scale * 2 ^ bits ≤ 2 ^ 64 → 7 < bits → b < 256 → (sum + scale * (b - 128) < scale * 128) × (scale * 128 < 2 ^ 64)
more_below sum scale bits b h k l n =
    let c : b - 128 ≤ 127 = omega arith in
    let one : 1 ≤ bits - 7 = omega arith in
    let e : 2 ^ 1 ≤ 2 ^ (bits - 7) = pow_mono one in
    (omega (arith, mul-le-mul_left scale c), omega (arith, same_bound scale bits l, mul-le-mul_left (scale * 128) e))

rest_digits : (bits : ℕ) → 7 < bits → (bits - 1) / 7 ≡ suc ((bits - 7 - 1) / 7)
rest_digits bits h = omega arith

-- Behind a byte that is not the last one a number of seven bits fewer is read.
rest_bits : (is_signed : Bool) (bits : ℕ) → 7 < bits → number_at (number_end is_signed) ((bits - 1) / 7) (2 ^ bits / 128) ≡ bits_at is_signed (bits - 7)
rest_bits is_signed bits h =
    let seven : 7 ≤ bits = omega arith in
    ap (λ most. number_at (number_end is_signed) most (2 ^ bits / 128)) (rest_digits bits h)
    ∙ ap (number_at (number_end is_signed) (suc ((bits - 7 - 1) / 7))) (narrower bits seven)

wide : (bits : ℕ) → 7 < bits → 128 < 2 ^ bits
wide bits h =
    let k : 8 ≤ bits = omega arith in
    let e : 2 ^ 8 ≤ 2 ^ bits = pow_mono k in
    omega (arith, e)

behind_more : (is_signed : Bool) (bits at b : ℕ) → 7 < bits → 128 ≤ b → number_behind (number_end is_signed) ((bits - 1) / 7) (2 ^ bits) at b ≡ bits_at is_signed (bits - 7) >>= (λ m. give (b - 128 + 128 * m))
behind_more is_signed bits at b h l =
    cond-false (ltb b 128) _ _ (le-ltb b 128 l)
    ∙ cond-true (ltb 128 (2 ^ bits)) _ _ (lt-ltb 128 (2 ^ bits) (wide bits h))
    ∙ ap (λ reader. reader >>= (λ m. give (b - 128 + 128 * m))) (rest_bits is_signed bits h)

counted : (sum scale b m : ℕ) → sum + scale * (b + 128 * m) ≡ sum + scale * b + scale * 128 * m
counted sum scale b m = omega arith

-- A byte that is not the last one counts, and a number of seven bits fewer is still to be read.
pub takes_more : (s : LebState) (b at : ℕ) → 7 < s.bits → 128 ≤ b → Takes (rest_of_leb s) b at (rest_of_leb (record { sum = s.sum + s.scale * (b - 128); scale = s.scale * 128; bits = s.bits - 7; is_signed = s.is_signed }))
unfolding rest_of_leb
takes_more s b at h l =
    takes_as (ap (λ reader. reader >>= (λ m. give (s.sum + s.scale * m))) (behind_more s.is_signed s.bits at b h l)
    ∙ then_then (bits_at s.is_signed (s.bits - 7)) (λ m. give (b - 128 + 128 * m)) (λ m. give (s.sum + s.scale * m))
    ∙ then_same (bits_at s.is_signed (s.bits - 7)) (λ m. give (s.sum + s.scale * (b - 128 + 128 * m))) (λ m. give (s.sum + s.scale * (b - 128) + s.scale * 128 * m)) (λ m. ap give (counted s.sum s.scale (b - 128) m)))
    (takes_then (λ m. give (s.sum + s.scale * m)) (takes_number (number_end s.is_signed) ((s.bits - 1) / 7) (2 ^ s.bits) b at))

-- A number of which nothing was read.
pub whole_number : (bits : ℕ) (is_signed : Bool) → rest_of_leb (record { sum = 0; scale = 1; bits = bits; is_signed = is_signed }) ≡ bits_at is_signed bits
unfolding rest_of_leb
whole_number bits is_signed =
    then_same (bits_at is_signed bits) (λ m. give (0 + 1 * m)) give (λ m. ap give (omega arith)) ∙ then_give (bits_at is_signed bits)
