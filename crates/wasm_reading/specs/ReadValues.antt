-- Reading numbers, byte sequences, names and vectors (WebAssembly Core Specification 1.0, sections 5.1.3 and 5.2).
use Rattle.std.specs.Prelude.{ℕ, zero, suc, ◌+◌, ◌-◌, ◌*◌, ◌/◌, ◌^◌, nat_lt, nat_le, if◌then◌else◌, List, Option, None, Some, Result, Ok, Err, ◌==◌}
use Rattle.std.specs.Str.{is_utf8}
use Rattle.wasm_reading.specs.declared.fault.DecodeFault.{DecodeFault}
use Rattle.wasm_reading.specs.declared.fault.DecodeFault.TheVariants.{BadLeb, BadTag, BadUtf8}
use Rattle.wasm_reading.specs.Readers.{Reader, ◌>>=◌, give, fail, fail_here, here, byte_at, each_at, within}

-- the number that a last byte spells, where it is the last byte of one that is below `limit`
abbrev pub unsigned_end : ℕ → ℕ → Option ℕ
unsigned_end limit b = if nat_lt b limit then Some b else None

-- the same of a signed number, by its residue modulo `limit`
abbrev pub signed_end : ℕ → ℕ → Option ℕ
signed_end limit b =
    if nat_lt b 64 then (if nat_lt (2 * b) limit then Some b else None)
    else (if nat_le 256 (2 * b + limit) then Some (b + limit - 128) else None)

-- a value, or a number that breaks the rule at this place
abbrev pub number_or : ℕ → Option ℕ → Reader ℕ
number_or place None = fail BadLeb place
number_or place (Some n) = give n

-- a number below `limit` in LEB128, of at most so many bytes: a byte of 128 or more is followed by the rest, which
-- has seven bits fewer
abbrev pub number_at : (ℕ → ℕ → Option ℕ) → ℕ → ℕ → Reader ℕ
number_at end_of zero limit = fail_here BadLeb
number_at end_of (suc most) limit = do
  place ← here
  b ← byte_at
  if nat_lt b 128 then number_or place (end_of limit b)
      else (if nat_lt 128 limit then (do m ← number_at end_of most (limit / 128); give (b - 128 + 128 * m)) else fail BadLeb place)

-- a u32
abbrev pub u32_at : Reader ℕ
u32_at = number_at unsigned_end 5 (2 ^ 32)

-- an s32, by its residue modulo 2 ^ 32
abbrev pub s32_at : Reader ℕ
s32_at = number_at signed_end 5 (2 ^ 32)

-- an s64, by its residue modulo 2 ^ 64
abbrev pub s64_at : Reader ℕ
s64_at = number_at signed_end 10 (2 ^ 64)

-- a value, or what is wrong with the byte at this place
abbrev pub tagged : {A : Type 0} → ℕ → Result A DecodeFault → Reader A
tagged place (Ok value) = give value
tagged place (Err fault) = fail fault place

-- a byte that stands for a value, by a table of what each byte stands for or what is wrong with it
abbrev pub tag_at : {A : Type 0} → (ℕ → Result A DecodeFault) → Reader A
tag_at of = do
  place ← here
  b ← byte_at
  tagged place (of b)

-- one byte and no other
abbrev pub only : ℕ → ℕ → Result (Unit {0}) DecodeFault
only wanted b = if b == wanted then Ok tt else Err BadTag

-- a vector: the count of its entries, and the entries
abbrev pub vector_at : {A : Type 0} → Reader A → Reader (List A)
vector_at item = do
  n ← u32_at
  each_at item n

-- a name: a vector of bytes, which are UTF-8
abbrev pub name_at : Reader (List ℕ)
name_at = do
  n ← u32_at
  place ← here
  bytes ← each_at byte_at n
  if is_utf8 bytes then give bytes else fail BadUtf8 place

-- a size in bytes, and a content of that size
abbrev pub sized_at : {A : Type 0} → Reader A → Reader A
sized_at content = do
  size ← u32_at
  place ← here
  within (place + size) content
