-- The readers of values read exactly what the grammar spells (WebAssembly Core Specification 1.0, section 5.2).
use Rattle.std.specs.Prelude.{◌<◌}
use Rattle.wasm_grammar.specs.ProfileInstructions.{FitsU32, IsShortListOf}
use Rattle.wasm_grammar.specs.Profile.{NameFits}
use Rattle.wasm_grammar.specs.GrammarValues.{IsByte, IsUnsigned, IsSigned32, IsSigned64, IsVector, IsByteVector, IsName}
use Rattle.wasm_reading.specs.Readers.{byte_at}
use Rattle.wasm_reading.specs.ReadValues.{u32_at, s32_at, s64_at, vector_at, name_at}
use Rattle.wasm_reading_values.specs.Exactness.{Exact}

-- bytes that stand for themselves, and are bytes
abbrev pub BytesReadExactly : Type 0
BytesReadExactly = Exact byte_at (λ b bytes. (b < 256) × IsByte b bytes)

-- u32
abbrev pub U32ReadExactly : Type 0
U32ReadExactly = Exact u32_at IsUnsigned

-- s32
abbrev pub S32ReadExactly : Type 0
S32ReadExactly = Exact s32_at IsSigned32

-- s64
abbrev pub S64ReadExactly : Type 0
S64ReadExactly = Exact s64_at IsSigned64

-- vectors of bytes, which have fewer than 2 ^ 32
abbrev pub ByteVectorsReadExactly : Type 0
ByteVectorsReadExactly = Exact (vector_at byte_at) (λ values bytes. IsShortListOf (λ b. b < 256) values × IsByteVector values bytes)

-- names, which are UTF-8 of fewer than 2 ^ 32 bytes
abbrev pub NamesReadExactly : Type 0
NamesReadExactly = Exact name_at (λ name bytes. NameFits name × IsName name bytes)

-- vectors of indices, which have fewer than 2 ^ 32
abbrev pub IndexVectorsReadExactly : Type 0
IndexVectorsReadExactly = Exact (vector_at u32_at) (λ ns bytes. IsShortListOf FitsU32 ns × IsVector IsUnsigned ns bytes)
