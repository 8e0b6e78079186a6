-- Numbers in LEB128 in the middle (WebAssembly Core Specification 1.0, section 5.2.2); the states are this project's own.
use Rattle.std.specs.Prelude.{ℕ, suc, ◌+◌, ◌-◌, ◌*◌, ◌/◌, ◌^◌, ◌<◌, ◌≤◌, Bool, true, false, nat_lt, if◌then◌else◌, Option}
use Rattle.wasm_reading.specs.declared.fault.DecodeFault.TheVariants.{BadLeb}
use Rattle.wasm_reading.specs.Readers.{Reader, ◌>>=◌, give, fail}
use Rattle.wasm_reading.specs.ReadValues.{number_at, number_or, unsigned_end, signed_end}
use Rattle.wasm_items.specs.declared.progress.Progress.{Progress}
use Rattle.wasm_items.specs.declared.progress.Progress.TheVariants.{More, Done}

-- what the bytes so far count, what a unit of the next byte counts, and how many bits the rest has
pub record LebState : Type 0 where
  pub sum : ℕ
  pub scale : ℕ
  pub bits : ℕ
  pub is_signed : Bool

-- what a last byte counts
abbrev pub number_end : Bool → ℕ → ℕ → Option ℕ
number_end false = unsigned_end
number_end true = signed_end

-- what is read behind a byte of a number
abbrev pub number_behind : (ℕ → ℕ → Option ℕ) → ℕ → ℕ → ℕ → ℕ → Reader ℕ
number_behind end_of most limit at b =
    if nat_lt b 128 then number_or at (end_of limit b)
    else (if nat_lt 128 limit then (do m ← number_at end_of most (limit / 128); give (b - 128 + 128 * m)) else fail BadLeb at)

-- the rest of a number of so many bits, which begins with a byte
abbrev pub bits_at : Bool → ℕ → Reader ℕ
bits_at is_signed bits = number_at (number_end is_signed) (suc ((bits - 1) / 7)) (2 ^ bits)

-- a number in the middle
unfoldable pub rest_of_leb : LebState → Reader ℕ
rest_of_leb state = do
  rest ← bits_at state.is_signed state.bits
  give (state.sum + state.scale * rest)

-- the number will be below this
abbrev pub bound_of : LebState → ℕ
bound_of state = state.scale * 2 ^ state.bits

-- a number, or one in the middle, is below the limit
abbrev pub StaysBelow : ℕ → Progress LebState ℕ → Type 0
StaysBelow limit (More state) = bound_of state ≤ limit
StaysBelow limit (Done n) = n < limit
