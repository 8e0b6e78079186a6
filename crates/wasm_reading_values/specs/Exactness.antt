-- When a reader reads exactly what a production spells; this project's own words.
use Rattle.std.specs.Prelude.{◌≡◌, ℕ, ◌+◌, ◌<◌, ◌≤◌, List, ◌++◌, length, All, Option, Some, None, Ok}
use Rattle.wasm_reading.specs.Readers.{Input, IsWithin, Reader}

-- numbers that are bytes
abbrev pub AreBytes : List ℕ → Type 0
AreBytes = All (λ b. b < 256)

-- `behind` is what is left of `input` once the bytes at its front are taken, and `P` holds of those
pub record Took (P : List ℕ → Type 0) (input behind : Input) : Type 0 where
  pub front : List ℕ
  pub holds : P front
  pub whole : input.rest ≡ front ++ behind.rest
  pub place : behind.at ≡ input.at + length front
  pub same_end : behind.end ≡ input.end

-- no more bytes than there is room for, where the room is bounded
abbrev pub HasRoom : Option ℕ → List ℕ → Type 0
HasRoom None bytes = Unit {0}
HasRoom (Some most) bytes = length bytes ≤ most

-- `Spells a` holds of the bytes that spell `a`. What is read is spelled by the bytes that were taken; and what is
-- spelled by the bytes at the front, up to the declared end at most, is read where no more bytes follow than there is
-- room for.
pub record ExactIn (room : Option ℕ) {A : Type 0} (read : Reader A) (Spells : A → List ℕ → Type 0) : Type 0 where
  pub sound : (input behind : Input) (a : A) → AreBytes input.rest → read input ≡ Ok (a, behind) → Took (Spells a) input behind
  pub complete : (input behind : Input) (a : A) → Took (Spells a) input behind → IsWithin behind.at behind.end → HasRoom room input.rest → read input ≡ Ok (a, behind)

-- a reader reads exactly what is spelled, however many bytes follow
abbrev pub Exact : {A : Type 0} → Reader A → (A → List ℕ → Type 0) → Type 0
Exact read Spells = ExactIn None read Spells
