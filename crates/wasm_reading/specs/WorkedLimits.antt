-- Inputs at the limits of the profile and one past them, and preambles that are not whole, written out with what reading
-- them gives; this project's own rows.
use Rattle.std.specs.Prelude.{◌≡◌, ℕ, zero, suc, List, [], ◌∷◌, None, Ok, Err}
use Rattle.wasm_ast.specs.declared.types.Limits.{Limits}
use Rattle.wasm_ast.specs.declared.types.ValTy.TheVariants.{I64}
use Rattle.wasm_grammar.specs.WorkedModules.{empty_module}
use Rattle.wasm_reading.specs.declared.fault.DecodeFault.TheVariants.{Truncated, BadTag, BadMagic, BadVersion, LimitOutside}
use Rattle.wasm_reading.specs.ReadModules.{reading_of}
use Rattle.wasm_reading.specs.WorkedReadings.{behind_preamble, HasFault}

-- at least so many, with no maximum
abbrev at_least : ℕ → Limits
at_least n = record { min = n; max = None }

-- one function of no parameters and no result, whose code begins with these bytes behind the id of its section
abbrev one_function : List ℕ → List ℕ
one_function code = 0x01 ∷ 0x04 ∷ 0x01 ∷ 0x60 ∷ 0x00 ∷ 0x00 ∷ 0x03 ∷ 0x02 ∷ 0x01 ∷ 0x00 ∷ 0x0A ∷ code

-- a memory has at most 1,024 pages at first, a table 100,000 entries; a function declares at most 50,000 locals in all its
-- runs together, and has one result at most; a page more is `TooManyPages`
pub record WorkedLimits : Type 0 where
  pub pages : reading_of (behind_preamble (0x05 ∷ 0x04 ∷ 0x01 ∷ 0x00 ∷ 0x80 ∷ 0x08 ∷ [])) ≡ Ok (record empty_module { memories = at_least 1_024 ∷ [] })
  pub entries : reading_of (behind_preamble (0x04 ∷ 0x06 ∷ 0x01 ∷ 0x70 ∷ 0x00 ∷ 0xA0 ∷ 0x8D ∷ 0x06 ∷ [])) ≡ Ok (record empty_module { tables = at_least 100_000 ∷ [] })
  pub entry_more : HasFault (0x04 ∷ 0x06 ∷ 0x01 ∷ 0x70 ∷ 0x00 ∷ 0xA1 ∷ 0x8D ∷ 0x06 ∷ []) 13 LimitOutside
  pub locals : reading_of (behind_preamble (one_function (0x08 ∷ 0x01 ∷ 0x06 ∷ 0x01 ∷ 0xD0 ∷ 0x86 ∷ 0x03 ∷ 0x7E ∷ 0x0B ∷ []))) ≡ Ok (record empty_module {
    types = record { params = []; result = None } ∷ [];
    funcs = 0 ∷ [];
    codes = record { locals = record { count = 50_000; ty = I64 } ∷ []; body = [] } ∷ [];
  })
  pub local_more : HasFault (one_function (0x08 ∷ 0x01 ∷ 0x06 ∷ 0x01 ∷ 0xD1 ∷ 0x86 ∷ 0x03 ∷ 0x7E ∷ 0x0B ∷ [])) 23 LimitOutside
  pub local_run_more : HasFault (one_function (0x0A ∷ 0x01 ∷ 0x08 ∷ 0x02 ∷ 0xD0 ∷ 0x86 ∷ 0x03 ∷ 0x7E ∷ 0x01 ∷ 0x7F ∷ 0x0B ∷ [])) 27 LimitOutside
  pub two_results : HasFault (0x01 ∷ 0x06 ∷ 0x01 ∷ 0x60 ∷ 0x00 ∷ 0x02 ∷ 0x7E ∷ 0x7E ∷ []) 13 LimitOutside

-- so many blocks without a result that begin, and what stands behind them
abbrev pub begun : ℕ → List ℕ → List ℕ
begun zero rest = rest
begun (suc n) rest = 0x02 ∷ 0x40 ∷ begun n rest

-- so many ends, and what stands behind them
abbrev pub ended : ℕ → List ℕ → List ℕ
ended zero rest = rest
ended (suc n) rest = 0x0B ∷ ended n rest

-- the opcode behind 1,000 blocks, each in the one before it, is read; a block there is one too many
pub record WorkedNesting : Type 0 where
  pub deepest : HasFault (one_function (0xC0 ∷ 0x17 ∷ 0x01 ∷ 0xBD ∷ 0x17 ∷ 0x00 ∷ begun 1_000 (0xFF ∷ ended 1_003 []))) 2_025 BadTag
  pub deeper : HasFault (one_function (0xC0 ∷ 0x17 ∷ 0x01 ∷ 0xBD ∷ 0x17 ∷ 0x00 ∷ begun 1_001 (ended 1_002 []))) 2_025 LimitOutside

-- another byte in the magic number is told as such, another one in the version as such, and an input that ends in the
-- preamble is truncated where it ends
pub record WorkedPreambles : Type 0 where
  pub nothing : reading_of [] ≡ Err (record { at = 0; fault = Truncated })
  pub three_bytes : reading_of (0x00 ∷ 0x61 ∷ 0x73 ∷ []) ≡ Err (record { at = 3; fault = Truncated })
  pub first_byte : reading_of (0x01 ∷ []) ≡ Err (record { at = 0; fault = BadMagic })
  pub fourth_byte : reading_of (0x00 ∷ 0x61 ∷ 0x73 ∷ 0x6E ∷ 0x02 ∷ []) ≡ Err (record { at = 3; fault = BadMagic })
  pub fifth_byte : reading_of (0x00 ∷ 0x61 ∷ 0x73 ∷ 0x6D ∷ 0x02 ∷ []) ≡ Err (record { at = 4; fault = BadVersion })
  pub last_byte : reading_of (0x00 ∷ 0x61 ∷ 0x73 ∷ 0x6D ∷ 0x01 ∷ 0x00 ∷ 0x00 ∷ 0x01 ∷ []) ≡ Err (record { at = 7; fault = BadVersion })
