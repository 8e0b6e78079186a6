-- The productions of values, and how productions are put together
-- (WebAssembly Core Specification 1.0, sections 5.1.3, 5.2 and 5.5.2). A production of a value is a condition on bytes.
use Rattle.std.specs.Prelude.{◌≡◌, ℕ, ◌<◌, List, [], ◌∷◌, ◌++◌, length, All, IsUtf8}
use Rattle.wasm_leb.specs.Leb.{IsU32, IsS32, IsS64}

infixr 5 ◌followed_by◌
-- the bytes of one production, and then those of another
pub record Joined (First Second : List ℕ → Type 0) (bytes : List ℕ) : Type 0 where
  pub front : List ℕ
  pub back : List ℕ
  pub first : First front
  pub second : Second back
  pub whole : bytes ≡ front ++ back

-- productions one after another
abbrev pub ◌followed_by◌ : (List ℕ → Type 0) → (List ℕ → Type 0) → List ℕ → Type 0
First followed_by Second = Joined First Second

-- these bytes and no other
abbrev pub IsExactly : List ℕ → List ℕ → Type 0
IsExactly written bytes = bytes ≡ written

-- this byte alone
abbrev pub IsByte : ℕ → List ℕ → Type 0
IsByte b bytes = bytes ≡ b ∷ []

-- bytes of any kind, which stand for themselves (5.2.1)
abbrev pub IsRaw : List ℕ → List ℕ → Type 0
IsRaw values bytes = All (λ b. b < 256) values × (bytes ≡ values)

-- a u32 (5.2.2)
abbrev pub IsUnsigned : ℕ → List ℕ → Type 0
IsUnsigned n bytes = IsU32 bytes n

-- an s32, by its residue modulo 2 ^ 32 (5.2.2)
abbrev pub IsSigned32 : ℕ → List ℕ → Type 0
IsSigned32 n bytes = IsS32 bytes n

-- an s64, by its residue modulo 2 ^ 64 (5.2.2)
abbrev pub IsSigned64 : ℕ → List ℕ → Type 0
IsSigned64 n bytes = IsS64 bytes n

-- the entries one after another
abbrev pub IsEach : {X : Type 0} → (X → List ℕ → Type 0) → List X → List ℕ → Type 0
IsEach Entry [] = IsExactly []
IsEach Entry (x ∷ xs) = Entry x followed_by IsEach Entry xs

-- a vector: the count of its entries, and the entries (5.1.3)
abbrev pub IsVector : {X : Type 0} → (X → List ℕ → Type 0) → List X → List ℕ → Type 0
IsVector Entry xs = IsUnsigned (length xs) followed_by IsEach Entry xs

-- a vector of bytes (5.1.3, 5.2.1)
abbrev pub IsByteVector : List ℕ → List ℕ → Type 0
IsByteVector values = IsUnsigned (length values) followed_by IsRaw values

-- a name: a vector of bytes that are UTF-8 (5.2.4)
abbrev pub IsName : List ℕ → List ℕ → Type 0
IsName name bytes = IsUtf8 name × (IsUnsigned (length name) followed_by IsExactly name) bytes

-- a size in bytes, and a content of that size (5.5.2, 5.5.13)
pub record IsSized (Content : List ℕ → Type 0) (bytes : List ℕ) : Type 0 where
  pub size : List ℕ
  pub content : List ℕ
  pub measured : IsUnsigned (length content) size
  pub spelled : Content content
  pub whole : bytes ≡ size ++ content
