-- Items that are read a byte at a time: what a state still reads is a reader, its residual; this project's own.
use Rattle.std.specs.Prelude.{◌≡◌, ℕ, ◌+◌, false, List, ◌∷◌, ◌⊎◌, Option, Result, Ok, Err}
use Rattle.wasm_reading.specs.declared.fault.DecodeError.{DecodeError}
use Rattle.wasm_reading.specs.declared.fault.DecodeFault.{DecodeFault}
use Rattle.wasm_reading.specs.declared.fault.DecodeFault.TheVariants.{Memory}
use Rattle.wasm_reading.specs.Readers.{Input, Reader, give, byte_at, is_at_end}
use Rattle.wasm_items.specs.declared.progress.Progress.{Progress}
use Rattle.wasm_items.specs.declared.progress.Progress.TheVariants.{More, Done}

-- nothing is read, and the fault is this one
abbrev pub stop : {A : Type 0} → DecodeError → Reader A
stop e = λ input. Err e

-- At the place `at`, before a declared end, the reader `old` takes the byte `b` and reads on as `new`.
pub record Takes {A : Type 0} (old : Reader A) (b at : ℕ) (new : Reader A) : Type 0 where
  pub same : (end : Option ℕ) (bs : List ℕ) → is_at_end (record { at = at; end = end; rest = b ∷ bs }) ≡ false → old (record { at = at; end = end; rest = b ∷ bs }) ≡ new (record { at = at + 1; end = end; rest = bs })

-- what is read behind a byte: by the further state, or nothing
abbrev pub rest_behind : {S A : Type 0} → (S → Reader A) → Progress S A → Reader A
rest_behind rest_of (More state) = rest_of state
rest_behind rest_of (Done value) = give value

-- the same behind an answer
abbrev pub answered : {S A : Type 0} → (S → Reader A) → Result (Progress S A) DecodeError → Reader A
answered rest_of (Ok progress) = rest_behind rest_of progress
answered rest_of (Err e) = stop e

-- the answer to a byte is what the residual `old` makes of it
abbrev pub PushesExactly : {S A : Type 0} → (S → Reader A) → Reader A → ℕ → ℕ → Result (Progress S A) DecodeError → Type 0
PushesExactly rest_of old b at answer = Takes old b at (answered rest_of answer)

-- want of memory, which no reader answers
abbrev pub no_memory : DecodeError
no_memory = record { at = 0; fault = Memory }

-- a fault at a byte is the residual's, or want of memory
abbrev pub Stops : {A : Type 0} → Reader A → ℕ → ℕ → DecodeError → Type 0
Stops old b at e = (e ≡ no_memory) ⊎ Takes old b at (stop e)

-- the answer to a byte is what the residual `old` makes of it, or want of memory
abbrev pub Pushes : {S A : Type 0} → (S → Reader A) → Reader A → ℕ → ℕ → Result (Progress S A) DecodeError → Type 0
Pushes rest_of old b at (Ok progress) = Takes old b at (rest_behind rest_of progress)
Pushes rest_of old b at (Err e) = Stops old b at e

-- what a table says of the byte at a place
abbrev pub placed : {A : Type 0} → ℕ → Result A DecodeFault → Result A DecodeError
placed at (Ok value) = Ok value
placed at (Err fault) = Err (record { at = at; fault = fault })

-- A reader that wants a byte first: where there is none, the fault is its fault.
pub record WantsAByte {A : Type 0} (reader : Reader A) : Type 0 where
  pub wants : (input : Input) (e : DecodeError) → byte_at input ≡ Err e → reader input ≡ Err e
