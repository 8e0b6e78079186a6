-- Steps through the id and the size of a custom section (WebAssembly Core Specification 1.0, section 5.5.2); the states
-- are this project's own.
use Rattle.std.specs.Prelude.{◌≡◌, ℕ, ◌+◌, ◌≤◌, List, [], ◌∷◌, ◌++◌, length, None, Result, Ok, IsOkAnd, ◌⊎◌}
use Rattle.wasm_reading.specs.declared.fault.DecodeError.{DecodeError}
use Rattle.wasm_reading.specs.Readers.{Reader}
use Rattle.wasm_reading.specs.ReadValues.{u32_at}
use Rattle.wasm_items.specs.LebStates.{LebState, rest_of_leb}
use Rattle.wasm_decode.specs.declared.steps.Step.{Step}
use Rattle.wasm_decode.specs.declared.steps.Step.TheVariants as steps
use Rattle.wasm_decode.specs.Steps.{custom_step}

-- the id of a section is read next, or the input ends
abbrev pub IsBetween : Step → Type 0
IsBetween (steps.Preamble k) = 8 ≤ k
IsBetween steps.Between = Unit {0}
IsBetween _ = ⊥

-- the size of a custom section is read next, from its first byte on
abbrev pub BeginsCustom : Step → Type 0
BeginsCustom step = (number : LebState) × (step ≡ steps.Size 0 number) × (rest_of_leb number ≡ u32_at)

-- outside of any declared end, the bytes at this place are read as the number, whatever follows them
abbrev pub Reads : Reader ℕ → ℕ → List ℕ → ℕ → Type 0
Reads reader at bytes n = (rest : List ℕ) → reader (record { at = at; end = None; rest = bytes ++ rest }) ≡ Ok (n, record { at = at + length bytes; end = None; rest = rest })

-- of the size `n` of a custom section these bytes are left; where none are, its content is read next
abbrev pub IsInSize : Step → ℕ → List ℕ → ℕ → Type 0
IsInSize step at left n = ((number : LebState) × (step ≡ steps.Size 0 number) × Reads (rest_of_leb number) at left n) ⊎ ((left ≡ []) × (step ≡ custom_step n))

-- a byte of the size of a custom section is taken
abbrev pub TakesSize : LebState → ℕ → ℕ → Result Step DecodeError → Type 0
TakesSize number b at answer = (left : List ℕ) (n : ℕ) → Reads (rest_of_leb number) at (b ∷ left) n → IsOkAnd answer (λ next. IsInSize next (at + 1) left n)
