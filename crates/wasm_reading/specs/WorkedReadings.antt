-- Byte lists that are written out, and what reading them gives; this project's own rows.
use Rattle.std.specs.Prelude.{◌≡◌, ℕ, List, [], ◌∷◌, ◌++◌, Ok, Err}
use Rattle.wasm_grammar.specs.CanonicalModules.{preamble}
use Rattle.wasm_reading.specs.declared.fault.DecodeFault.{DecodeFault}
use Rattle.wasm_reading.specs.declared.fault.DecodeFault.TheVariants.{Truncated, BadLeb, BadOrder, BadLength, FloatOutside, LimitOutside}
use Rattle.wasm_grammar.specs.WorkedModules.{empty_module}
use Rattle.wasm_reading.specs.ReadModules.{reading_of}

-- the magic number and the version, and bytes behind them
abbrev pub behind_preamble : List ℕ → List ℕ
behind_preamble bytes = preamble ++ bytes

-- bytes behind the preamble have this first fault at this place
abbrev pub HasFault : List ℕ → ℕ → DecodeFault → Type 0
HasFault bytes at fault = reading_of (behind_preamble bytes) ≡ Err (record { at = at; fault = fault })

-- a count in two bytes, where one would do
abbrev pub TwoByteCount : Type 0
TwoByteCount = reading_of (behind_preamble (0x01 ∷ 0x02 ∷ 0x80 ∷ 0x00 ∷ [])) ≡ Ok empty_module

-- a number of 32 bits whose last byte is too great
abbrev pub LastByteTooGreat : Type 0
LastByteTooGreat = HasFault (0x01 ∷ 0x05 ∷ 0x80 ∷ 0x80 ∷ 0x80 ∷ 0x80 ∷ 0x1F ∷ []) 14 BadLeb

-- a section whose id does not rise
abbrev pub IdDoesNotRise : Type 0
IdDoesNotRise = HasFault (0x0A ∷ 0x01 ∷ 0x00 ∷ 0x03 ∷ 0x01 ∷ 0x00 ∷ []) 11 BadOrder

-- a constant of floating point in a body
abbrev pub FloatInABody : Type 0
FloatInABody = HasFault (0x01 ∷ 0x04 ∷ 0x01 ∷ 0x60 ∷ 0x00 ∷ 0x00 ∷ 0x03 ∷ 0x02 ∷ 0x01 ∷ 0x00 ∷ 0x0A ∷ 0x09 ∷ 0x01 ∷ 0x07 ∷ 0x00 ∷ 0x43 ∷ 0x00 ∷ 0x00 ∷ 0x00 ∷ 0x00 ∷ 0x0B ∷ []) 23 FloatOutside

-- a memory of 1,025 pages
abbrev pub TooManyPages : Type 0
TooManyPages = HasFault (0x05 ∷ 0x04 ∷ 0x01 ∷ 0x00 ∷ 0x81 ∷ 0x08 ∷ []) 12 LimitOutside

-- a custom section that is longer than the input
abbrev pub CustomSectionTooLong : Type 0
CustomSectionTooLong = HasFault (0x00 ∷ 0xFF ∷ 0xFF ∷ 0xFF ∷ 0xFF ∷ 0x0F ∷ []) 14 Truncated

-- a section whose content stops before its end
abbrev pub ContentStopsEarly : Type 0
ContentStopsEarly = HasFault (0x01 ∷ 0x7F ∷ 0x01 ∷ 0x60 ∷ 0x00 ∷ 0x00 ∷ []) 14 BadLength
