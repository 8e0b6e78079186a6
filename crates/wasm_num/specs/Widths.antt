-- The integers of a width, as whole numbers, and their signed readings (WebAssembly Core Specification 1.0, sections 2.2.2 and
-- 4.3.2, "signed").
use Rattle.std.specs.Prelude.{ℕ, ◌-◌, ◌^◌, ◌<◌, cond, nat_lt, ℤ, pos, ◌-ℤ◌, unsigned_abs}
use Rattle.std.specs.Int.{int_rem_euclid}
use Rattle.wasm_operators.specs.declared.Width.{Width}
use Rattle.wasm_operators.specs.declared.Width.TheVariants.{W32, W64}

-- how many binary digits an integer of a width has
abbrev pub bits_of : Width → ℕ
bits_of W32 = 32
bits_of W64 = 64

-- 2 to the width
abbrev pub modulus : Width → ℕ
modulus w = 2 ^ bits_of w

-- half of that, from which on an integer is read as negative
abbrev pub half : Width → ℕ
half w = 2 ^ (bits_of w - 1)

-- a whole number that is an integer of a width
abbrev pub IsWithin : Width → ℕ → Type 0
IsWithin w n = n < modulus w

-- the signed reading
abbrev pub signed : Width → ℕ → ℤ
signed w n = cond (nat_lt n (half w)) (pos n) (pos n -ℤ pos (modulus w))

-- the integer of a width that differs from z by a multiple of 2 to the width
abbrev pub residue : Width → ℤ → ℕ
residue w z = unsigned_abs (int_rem_euclid z (pos (modulus w)))
