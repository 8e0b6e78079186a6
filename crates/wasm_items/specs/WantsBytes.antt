-- Readers that want a byte first: a byte, a byte by a table, a number, and what begins with such a reader; this
-- project's own.
use Rattle.std.specs.Prelude.{◌≡◌, ℕ, ◌+◌, ◌-◌, ◌*◌, ◌/◌, ◌^◌, Result, Some, Err}
use Rattle.std.proofs.Common.{ap}
use Rattle.wasm_reading.specs.declared.fault.DecodeError.{DecodeError}
use Rattle.wasm_reading.specs.declared.fault.DecodeFault.{DecodeFault}
use Rattle.wasm_reading.specs.Readers.{Input, Reader, and_then, ◌>>=◌, give, here, byte_at, lesser_end, within, ended}
use Rattle.wasm_reading.specs.ReadValues.{tag_at, tagged}
use Rattle.wasm_items.specs.Residuals.{WantsAByte}
use Rattle.wasm_items.specs.LebStates.{LebState, rest_of_leb, number_end, number_behind}

-- a byte
pub wants_byte : WantsAByte byte_at
wants_byte = record { wants = λ input e none. none }

-- what begins with a reader that wants a byte
pub wants_then : {A B : Type 0} {reader : Reader A} (f : A → Reader B) → WantsAByte reader → WantsAByte (reader >>= f)
wants_then f wanting = record { wants = λ input e none. ap (λ done. and_then done f) (wanting.wants input e none) }

-- the place, and then a reader that wants a byte
pub wants_here : {A : Type 0} {f : ℕ → Reader A} → ((place : ℕ) → WantsAByte (f place)) → WantsAByte (here >>= f)
wants_here wanting = record { wants = λ input e none. (wanting input.at).wants input e none }

-- a byte by a table
pub wants_tag : {A : Type 0} (of : ℕ → Result A DecodeFault) → WantsAByte (tag_at of)
wants_tag of = wants_here (λ place. wants_then (λ b. tagged place (of b)) wants_byte)

-- a number in the middle
pub wants_leb : (s : LebState) → WantsAByte (rest_of_leb s)
unfolding rest_of_leb
wants_leb s =
    wants_then (λ m. give (s.sum + s.scale * m))
    (wants_here (λ place. wants_then (number_behind (number_end s.is_signed) ((s.bits - 1) / 7) (2 ^ s.bits) place) wants_byte))

-- a content of a declared end lacks a byte where the input within that end does
pub lacks_within : {A : Type 0} {content : Reader A} (stop : ℕ) (input : Input) (e : DecodeError) → WantsAByte content → byte_at (record { at = input.at; end = Some (lesser_end input.end stop); rest = input.rest }) ≡ Err e → within stop content input ≡ Err e
lacks_within stop input e wanting none =
    ap (λ done. and_then done (ended input.end stop)) (wanting.wants (record { at = input.at; end = Some (lesser_end input.end stop); rest = input.rest }) e none)
