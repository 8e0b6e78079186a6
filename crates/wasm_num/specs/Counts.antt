-- Counts of an integer's binary digits (WebAssembly Core Specification 1.0, section 4.3.2, "iclz", "ictz" and "ipopcnt").
use Rattle.std.specs.Prelude.{ℕ, zero, suc, ◌+◌, ◌/◌, ◌%◌, List, [], ◌∷◌, reverse}
use Rattle.wasm_operators.specs.declared.Width.{Width}
use Rattle.wasm_num.specs.Widths.{bits_of}

-- so many binary digits of a number, the lowest first
abbrev pub digits_of : ℕ → ℕ → List ℕ
digits_of zero n = []
digits_of (suc k) n = n % 2 ∷ digits_of k (n / 2)

-- how many zeros come before all else
abbrev pub zeros_first : List ℕ → ℕ
zeros_first [] = 0
zeros_first (zero ∷ digits) = suc (zeros_first digits)
zeros_first (suc _ ∷ digits) = 0

-- how many of the digits are 1
abbrev pub ones_among : List ℕ → ℕ
ones_among [] = 0
ones_among (digit ∷ digits) = digit + ones_among digits

abbrev pub leading_zeros : Width → ℕ → ℕ
leading_zeros w n = zeros_first (reverse (digits_of (bits_of w) n))

abbrev pub trailing_zeros : Width → ℕ → ℕ
trailing_zeros w n = zeros_first (digits_of (bits_of w) n)

abbrev pub ones : Width → ℕ → ℕ
ones w n = ones_among (digits_of (bits_of w) n)
