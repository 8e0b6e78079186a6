-- Reading from the left: items one after another, up to the first that breaks its rule; this project's own.
-- A reader takes what it reads from an input and gives a value and the input behind it, or the first fault.
use Rattle.std.specs.Prelude.{ℕ, zero, suc, ◌+◌, ◌==◌, ◌≤◌, min, Bool, false, if◌then◌else◌, List, [], ◌∷◌, Option, None, Some, Result, Ok, Err}
use Rattle.std.specs.Option.{option_map_or}
use Rattle.wasm_reading.specs.declared.fault.DecodeError.{DecodeError}
use Rattle.wasm_reading.specs.declared.fault.DecodeFault.{DecodeFault}
use Rattle.wasm_reading.specs.declared.fault.DecodeFault.TheVariants.{Truncated, BadLength}

-- how many bytes were read, the least end that was declared, and the bytes that follow
pub record Input : Type 0 where
  pub at : ℕ
  pub end : Option ℕ
  pub rest : List ℕ

-- a value and the input behind it, or the first fault
abbrev pub Reader : Type 0 → Type 0
Reader A = Input → Result (A × Input) DecodeError

-- what is read behind a value, where there is one
abbrev pub and_then : {A B : Type 0} → Result (A × Input) DecodeError → (A → Reader B) → Result (B × Input) DecodeError
and_then (Ok done) next = next done.0 done.1
and_then (Err e) next = Err e

infixl 10 ◌>>=◌
-- one reader behind another
abbrev pub ◌>>=◌ : {A B : Type 0} → Reader A → (A → Reader B) → Reader B
◌>>=◌ first next = λ input. and_then (first input) next

-- a value, for which nothing is read
abbrev pub give : {A : Type 0} → A → Reader A
give value = λ input. Ok (value, input)

-- a fault at a place
abbrev pub fail : {A : Type 0} → DecodeFault → ℕ → Reader A
fail fault at = λ input. Err (record { at = at; fault = fault })

-- a fault where reading stands
abbrev pub fail_here : {A : Type 0} → DecodeFault → Reader A
fail_here fault = λ input. Err (record { at = input.at; fault = fault })

-- where reading stands
abbrev pub here : Reader ℕ
here = λ input. Ok (input.at, input)

-- reading stands at a declared end
abbrev pub is_at_end : Input → Bool
is_at_end input = option_map_or (λ end. input.at == end) input.end false

-- the place stands at the declared end or before it
abbrev pub IsWithin : ℕ → Option ℕ → Type 0
IsWithin at None = Unit {0}
IsWithin at (Some end) = at ≤ end

-- the first byte of what follows, which the input may lack
abbrev pub first_byte : ℕ → Option ℕ → List ℕ → Result (ℕ × Input) DecodeError
first_byte at end [] = Err (record { at = at; fault = Truncated })
first_byte at end (b ∷ bs) = Ok (b, record { at = at + 1; end = end; rest = bs })

-- the next byte: none is read past a declared end
abbrev pub byte_at : Reader ℕ
byte_at = λ input. if is_at_end input then Err (record { at = input.at; fault = BadLength }) else first_byte input.at input.end input.rest

-- so many values, one after another
abbrev pub each_at : {A : Type 0} → Reader A → ℕ → Reader (List A)
each_at item zero = give []
each_at item (suc n) = do
  x ← item
  xs ← each_at item n
  give (x ∷ xs)

-- the lesser of two ends
abbrev pub lesser_end : Option ℕ → ℕ → ℕ
lesser_end None stop = stop
lesser_end (Some end) stop = min end stop

-- what stands behind a content that ends where it was declared to end
abbrev pub ended : {A : Type 0} → Option ℕ → ℕ → A → Reader A
ended end stop value = λ input.
    if input.at == stop then Ok (value, record { at = input.at; end = end; rest = input.rest })
    else Err (record { at = input.at; fault = BadLength })

-- a content that is declared to end at `stop`, and ends there
abbrev pub within : {A : Type 0} → ℕ → Reader A → Reader A
within stop content = λ input.
    and_then (content (record { at = input.at; end = Some (lesser_end input.end stop); rest = input.rest })) (ended input.end stop)
