-- The lines of printed numbers (this project's own).
use Rattle.std.specs.Prelude.{ℕ, ℤ, List, ◌++◌, codes}
use Rattle.std.specs.Int.{cast_signed, w64}
use Rattle.std.specs.Fmt.{signed_decimal}
use Rattle.std.specs.List.{flat_map}

-- a number in decimal digits, and a newline
abbrev pub line_of : ℤ → List ℕ
line_of z = signed_decimal z ++ codes "\n"

-- a printed number, which stands for a signed one of 64 bits
abbrev pub printed_line : ℕ → List ℕ
printed_line n = line_of (cast_signed w64 n)

-- printed numbers, each on a line
abbrev pub text_of : List ℕ → List ℕ
text_of ns = flat_map printed_line ns
