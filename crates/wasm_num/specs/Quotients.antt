-- Quotients and remainders, truncated towards zero, and when there are none (WebAssembly Core Specification 1.0, section 4.3.2,
-- "idiv" and "irem").
use Rattle.std.specs.Prelude.{ℕ, ◌-◌, ◌/◌, ◌%◌, Bool, cond, ◌==◌, ◌&&◌, Result, Ok, Err, int_div, int_rem}
use Rattle.wasm_operators.specs.declared.Width.{Width}
use Rattle.wasm_num.specs.declared.NumTrap.{NumTrap}
use Rattle.wasm_num.specs.declared.NumTrap.TheVariants.{DivideByZero, Overflow}
use Rattle.wasm_num.specs.Widths.{modulus, half, signed, residue}

-- the answer n of a division by b
abbrev pub divided_by : ℕ → ℕ → Result ℕ NumTrap
divided_by b n = cond (b == 0) (Err DivideByZero) (Ok n)

abbrev pub unsigned_quotient : Width → ℕ → ℕ → Result ℕ NumTrap
unsigned_quotient w a b = divided_by b (a / b)

abbrev pub unsigned_remainder : Width → ℕ → ℕ → Result ℕ NumTrap
unsigned_remainder w a b = divided_by b (a % b)

-- whether the quotient passes the signed readings: the least integer by -1 does
abbrev pub overflows : Width → ℕ → ℕ → Bool
overflows w a b = (a == half w) && (b == modulus w - 1)

abbrev pub signed_quotient : Width → ℕ → ℕ → Result ℕ NumTrap
signed_quotient w a b = cond (overflows w a b) (Err Overflow) (divided_by b (residue w (int_div (signed w a) (signed w b))))

abbrev pub signed_remainder : Width → ℕ → ℕ → Result ℕ NumTrap
signed_remainder w a b = divided_by b (residue w (int_rem (signed w a) (signed w b)))
