-- Numbers in Rich texts, by their words (this project's own).
use Rattle.std.specs.Prelude.{ℕ, ◌+◌, ◌-◌, ◌*◌, ◌^◌, ◌==◌, nat_lt, nat_le, Bool, false, if◌then◌else◌, List, [], ◌∷◌}
use Rattle.std.specs.List.{list_all}
use Rattle.std.specs.Char.{is_ascii_digit}

-- numbers without a sign, and constants of 32 and 64 bits
pub data NumberRange : Type 0 where
  Index : NumberRange
  Constant32 : NumberRange
  Constant64 : NumberRange

-- a number, one that is out of its range, or none
pub data Number : Type 0 where
  Within : ℕ → Number
  OutOfRange : Number
  NoNumber : Number

-- the value of digits behind digits of the value v
abbrev pub value_after : ℕ → List ℕ → ℕ
value_after v [] = v
value_after v (d ∷ ds) = value_after (10 * v + (d - 48)) ds

-- `0`, or digits of which the first is not `0`
abbrev pub are_digits : List ℕ → Bool
are_digits [] = false
are_digits (d ∷ []) = is_ascii_digit d
are_digits (d ∷ ds) = if d == 48 then false else list_all is_ascii_digit (d ∷ ds)

-- a number without a sign, below a limit
abbrev pub natural_of : ℕ → List ℕ → Number
natural_of limit w = if are_digits w then (if nat_lt (value_after 0 w) limit then Within (value_after 0 w) else OutOfRange) else NoNumber

-- a negative number down to -least, modulo `modulus`
abbrev pub negative_of : ℕ → ℕ → List ℕ → Number
negative_of least modulus w =
    if are_digits w then
    (if value_after 0 w == 0 then NoNumber
    else (if nat_le (value_after 0 w) least then Within (modulus - value_after 0 w) else OutOfRange))
    else NoNumber

-- a number that may have a sign, from -least to below `modulus`
abbrev pub signed_of : ℕ → ℕ → List ℕ → Number
signed_of least modulus [] = NoNumber
signed_of least modulus (b ∷ bs) = if b == 45 then negative_of least modulus bs else natural_of modulus (b ∷ bs)

-- the number that a word writes
abbrev pub number_of : NumberRange → List ℕ → Number
number_of Index w = signed_of 0 (2 ^ 32) w
number_of Constant32 w = signed_of (2 ^ 31) (2 ^ 32) w
number_of Constant64 w = signed_of (2 ^ 63) (2 ^ 64) w
