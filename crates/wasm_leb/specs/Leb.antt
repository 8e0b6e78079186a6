-- Integers of the binary format in LEB128: seven bits a byte, the low ones first, and 128 added to
-- each byte but the last (WebAssembly Core Specification 1.0, 5.2.2 Integers).
-- A number of N bits is kept below `limit`, which is 2 ^ N: a signed one as its residue modulo `limit`.
use Rattle.std.specs.Prelude.{◌≡◌, ℕ, zero, suc, ◌+◌, ◌-◌, ◌*◌, ◌/◌, ◌%◌, ◌^◌, ◌<◌, ◌≤◌, List, [], ◌∷◌, ◌⊎◌, min, nat_lt, nat_le, if◌then◌else◌}

-- `b` is the last byte of the unsigned number `n`.
abbrev pub IsUnsignedEnd : ℕ → ℕ → ℕ → Type 0
IsUnsignedEnd limit b n = (b < 128) × (b < limit) × (n ≡ b)

-- `b` is the last byte of the signed number `n`: its bit of 64 is the sign, and the bits that the
-- number has no room for are copies of the sign.
abbrev pub IsSignedEnd : ℕ → ℕ → ℕ → Type 0
IsSignedEnd limit b n =
    ((b < 64) × (2 * b < limit) × (n ≡ b)) ⊎ ((64 ≤ b) × (b < 128) × (256 ≤ 2 * b + limit) × (n + 128 ≡ b + limit))

-- The bytes spell the number: a last byte, or a byte of 128 or more and a spelling of the rest,
-- which has seven bits fewer.
abbrev pub IsLeb : (ℕ → ℕ → ℕ → Type 0) → ℕ → List ℕ → ℕ → Type 0
IsLeb End limit [] n = ⊥
IsLeb End limit (b ∷ bs) n =
    (End limit b n × (bs ≡ [])) ⊎ ((128 ≤ b) × (b < 256) × (128 < limit) × (m : ℕ) × (n + 128 ≡ b + 128 * m) × IsLeb End (limit / 128) bs m)

-- The bytes spell the number as a `u32`.
abbrev pub IsU32 : List ℕ → ℕ → Type 0
IsU32 = IsLeb IsUnsignedEnd (2 ^ 32)

-- The bytes spell the number as an `s32`.
abbrev pub IsS32 : List ℕ → ℕ → Type 0
IsS32 = IsLeb IsSignedEnd (2 ^ 32)

-- The bytes spell the number as an `s64`.
abbrev pub IsS64 : List ℕ → ℕ → Type 0
IsS64 = IsLeb IsSignedEnd (2 ^ 64)

-- The least spelling of an unsigned number, of at most `k` bytes: 5 for a `u32`.
abbrev pub unsigned_least : ℕ → ℕ → List ℕ
unsigned_least zero n = []
unsigned_least (suc k) n = if nat_lt n 128 then n ∷ [] else ((n % 128 + 128) ∷ unsigned_least k (n / 128))

-- The least spelling of a signed number, of at most `k` bytes: 5 for an `s32`, 10 for an `s64`.
abbrev pub signed_least : ℕ → ℕ → ℕ → List ℕ
signed_least zero limit n = []
signed_least (suc k) limit n =
    if nat_lt (2 * n) (min 128 limit) then n ∷ []
    else (if nat_le limit (n + 64) then (n + 128 - limit) ∷ [] else ((n % 128 + 128) ∷ signed_least k (limit / 128) (n / 128)))
