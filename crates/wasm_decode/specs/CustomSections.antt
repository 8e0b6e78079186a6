-- Inputs that end in a custom section, by their bytes (WebAssembly Core Specification 1.0, sections 5.5.2, 5.5.3 and
-- 5.5.15).
use Rattle.std.specs.Prelude.{◌≡◌, ℕ, ◌+◌, List, [], ◌∷◌, ◌++◌, length, IfErr}
use Rattle.wasm_grammar.specs.CanonicalModules.{preamble}
use Rattle.wasm_grammar.specs.GrammarValues.{IsUnsigned}
use Rattle.wasm_grammar.specs.GrammarModules.{IsCustomSection}
use Rattle.wasm_reading.specs.declared.fault.DecodeFault.TheVariants.{CountMismatch}
use Rattle.wasm_reading.specs.ReadModules.{reading_of}

-- the bytes end behind the preamble or a section: they spell a module, or nothing is wrong with them but that, where
-- they end, there are not as many codes as functions
abbrev pub EndsBetweenSections : List ℕ → Type 0
EndsBetweenSections bytes = IfErr (reading_of bytes) (λ e. e ≡ record { at = length bytes; fault = CountMismatch })

-- the bytes `piece`, behind the bytes `fed`, lie in a custom section: in its id, its size and its content
pub record LiesInCustomSection (fed piece : List ℕ) : Type 0 where
  pub front : List ℕ
  pub begun : List ℕ
  pub left : List ℕ
  pub content : List ℕ
  pub between : EndsBetweenSections front
  pub spelled : IsCustomSection content (begun ++ (piece ++ left))
  pub whole : fed ≡ front ++ begun

-- the bytes `fed` end in the content of a custom section, of which `n` bytes follow
pub record EndsInCustomContent (fed : List ℕ) (n : ℕ) : Type 0 where
  pub front : List ℕ
  pub size : List ℕ
  pub content : List ℕ
  pub between : EndsBetweenSections front
  pub measured : IsUnsigned (length content + n) size
  pub whole : fed ≡ front ++ 0x00 ∷ (size ++ content)

-- the preamble, and a custom section of 10,000 bytes up to the second byte of its content
abbrev pub WorkedContent : Type 0
WorkedContent = EndsInCustomContent (preamble ++ 0x00 ∷ 0x90 ∷ 0x4E ∷ 0x01 ∷ 0x61 ∷ []) 9_998

-- behind the preamble and the id of a custom section, its size and two of the three bytes of its content
abbrev pub WorkedPiece : Type 0
WorkedPiece = LiesInCustomSection (preamble ++ 0x00 ∷ []) (0x03 ∷ 0x61 ∷ 0x62 ∷ [])
