-- Shifts and rotations of an integer's binary digits, by multiplying and dividing (WebAssembly Core Specification 1.0, section
-- 4.3.2, "ishl", "ishr" and "irot").
use Rattle.std.specs.Prelude.{ℕ, ◌+◌, ◌-◌, ◌*◌, ◌/◌, ◌%◌, ◌^◌, pos}
use Rattle.std.specs.Int.{int_div_euclid}
use Rattle.wasm_operators.specs.declared.Width.{Width}
use Rattle.wasm_num.specs.Widths.{bits_of, modulus, signed, residue}

-- how far the second operand shifts
abbrev pub distance : Width → ℕ → ℕ
distance w b = b % bits_of w

abbrev pub shifted_left : Width → ℕ → ℕ → ℕ
shifted_left w a b = (a * 2 ^ distance w b) % modulus w

abbrev pub unsigned_shifted_right : Width → ℕ → ℕ → ℕ
unsigned_shifted_right w a b = a / 2 ^ distance w b

-- the quotient is rounded down
abbrev pub signed_shifted_right : Width → ℕ → ℕ → ℕ
signed_shifted_right w a b = residue w (int_div_euclid (signed w a) (pos (2 ^ distance w b)))

-- a number of so many digits, of which the k highest come behind the others
abbrev pub turned_left : ℕ → ℕ → ℕ → ℕ
turned_left digits a k = (a * 2 ^ k) % 2 ^ digits + a / 2 ^ (digits - k)

-- one of which the k lowest come before the others
abbrev pub turned_right : ℕ → ℕ → ℕ → ℕ
turned_right digits a k = a / 2 ^ k + (a * 2 ^ (digits - k)) % 2 ^ digits

abbrev pub rotated_left : Width → ℕ → ℕ → ℕ
rotated_left w a b = turned_left (bits_of w) a (distance w b)

abbrev pub rotated_right : Width → ℕ → ℕ → ℕ
rotated_right w a b = turned_right (bits_of w) a (distance w b)
