-- What the code's numbers stand for in the definition of numbers (this project's own).
use Rattle.std.specs.Prelude.{⊤, ◌<◌, ◌≡◌, ℕ, ◌^◌, ◌≤◌, List, true, false}
use Rattle.rich_text.specs.Numbers.{NumberRange, Number, are_digits, value_after}
use Rattle.rich_text.specs.Numbers as number
use Rattle.rw_numbers.specs.declared.numbers.Range.{Range}
use Rattle.rw_numbers.specs.declared.numbers.Range.TheVariants.{Index, Constant32, Constant64}
use Rattle.rw_numbers.specs.declared.numbers.NumberWord.{NumberWord}
use Rattle.rw_numbers.specs.declared.numbers.NumberWord.TheVariants.{Within, OutOfRange, NoNumber}
use Rattle.rw_numbers.specs.declared.numbers.Value.{Value}
use Rattle.rw_numbers.specs.declared.numbers.Value.TheVariants.{NoDigits, Of, Large}

abbrev pub range_of : Range → NumberRange
range_of Index = number.Index
range_of Constant32 = number.Constant32
range_of Constant64 = number.Constant64

abbrev pub number_is : NumberWord → Number
number_is (Within n) = number.Within n
number_is OutOfRange = number.OutOfRange
number_is NoNumber = number.NoNumber

-- one past the greatest number of a range, and how far below 0 it goes
abbrev pub modulus_of : Range → ℕ
modulus_of Index = 2 ^ 32
modulus_of Constant32 = 2 ^ 32
modulus_of Constant64 = 2 ^ 64

abbrev pub least_of : Range → ℕ
least_of Index = 0
least_of Constant32 = 2 ^ 31
least_of Constant64 = 2 ^ 63

-- the value that digits write, where they are digits
abbrev pub IsValue : List ℕ → Value → Type 0
IsValue ds NoDigits = are_digits ds ≡ false
IsValue ds (Of n) = (are_digits ds ≡ true) × (value_after 0 ds ≡ n)
IsValue ds Large = (are_digits ds ≡ true) × (2 ^ 64 ≤ value_after 0 ds)

-- a number below a limit, or none
abbrev pub IsBelow : ℕ → NumberWord → Type 0
IsBelow limit (Within n) = n < limit
IsBelow limit OutOfRange = ⊤
IsBelow limit NoNumber = ⊤
