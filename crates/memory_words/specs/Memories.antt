-- A memory as a list of bytes, and the numbers that stand in it, the least byte first (WebAssembly Core Specification 1.0,
-- sections 4.2.8 and 4.3.1). Reads and writes are opaque: what is known of them stands in the laws of this crate.
use Rattle.std.specs.Prelude.{ℕ, zero, suc, ◌+◌, ◌*◌, ◌/◌, ◌%◌, List, [], ◌∷◌, ◌++◌, length, take, drop, replicate}

-- so many bytes of a number, the least one first
abbrev pub little_endian : ℕ → ℕ → List ℕ
little_endian zero v = []
little_endian (suc n) v = v % 256 ∷ little_endian n (v / 256)

-- the number that bytes spell, the least one first
abbrev pub number_of : List ℕ → ℕ
number_of [] = 0
number_of (b ∷ bs) = b + 256 * number_of bs

-- so many bytes, all zero
unfoldable pub zeros : ℕ → List ℕ
zeros n = replicate n 0

-- these bytes in the place of those from an address on
unfoldable pub put : List ℕ → ℕ → List ℕ → List ℕ
put memory address bytes = take address memory ++ (bytes ++ drop (address + length bytes) memory)

-- the number that so many bytes at an address spell
unfoldable pub read : ℕ → List ℕ → ℕ → ℕ
read n memory address = number_of (take n (drop address memory))

-- so many bytes of a number in the place of those from an address on
unfoldable pub write : ℕ → List ℕ → ℕ → ℕ → List ℕ
write n memory address v = put memory address (little_endian n v)

-- the 64-bit word with this number, from address 0 on
unfoldable pub word : List ℕ → ℕ → ℕ
word memory i = read 8 memory (8 * i)
