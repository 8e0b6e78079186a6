-- No reader faults for want of memory, or past the end of its input, and one that faults for want of a byte does so at
-- that end; and what it reads, any other fault too, it reads where more bytes follow. How readers are put together keeps
-- that. An input stands in `total` bytes where so many are read and follow.
use Rattle.std.proofs.Common.{◌≡◌, ◌∙◌, ℕ, zero, suc, ◌+◌, ◌-◌, ◌*◌, ◌/◌, ◌^◌, ◌<◌, ◌≤◌, Bool, true, false, List, [], ◌∷◌, ◌++◌, length, refl, sym, ap, subst, arith, Option, None, Some, Result, Ok, Err, inl, inr}
use Rattle.std.specs.Prelude.{◌≢◌, ◌⊎◌, ◌==◌, nat_lt, if◌then◌else◌}
use Rattle.std.specs.Str.{is_utf8}
use Rattle.wasm_reading.specs.declared.fault.DecodeError.{DecodeError}
use Rattle.wasm_reading.specs.declared.fault.DecodeFault.{DecodeFault}
use Rattle.wasm_reading.specs.declared.fault.DecodeFault.TheVariants.{Truncated, BadLeb, BadTag, BadLength, BadUtf8, CountMismatch, Memory}
use Rattle.wasm_reading.specs.Readers.{Input, Reader, and_then, ◌>>=◌, give, fail, here, is_at_end, first_byte, byte_at, each_at, ended, within, lesser_end}
use Rattle.wasm_reading.specs.ReadValues.{unsigned_end, signed_end, number_or, number_at, u32_at, s32_at, s64_at, tagged, tag_at, only, vector_at, name_at, sized_at}

-- so many bytes are read and follow
abbrev pub StandsIn : ℕ → Input → Type 0
StandsIn total input = input.at + length input.rest ≡ total

-- a fault of bytes that were read: neither want of a byte, nor of codes, nor of memory
abbrev is_of_bytes : DecodeFault → Bool
is_of_bytes Truncated = false
is_of_bytes CountMismatch = false
is_of_bytes Memory = false
is_of_bytes _ = true

abbrev pub IsOfBytes : DecodeFault → Type 0
IsOfBytes fault = is_of_bytes fault ≡ true

-- a fault that is none of memory, in so many bytes, and at their end where a byte is wanting
abbrev pub IsPlaced : ℕ → DecodeError → Type 0
IsPlaced total e = (e.fault ≢ Memory) × (e.at ≤ total) × (e.fault ≡ Truncated → e.at ≡ total)

-- an answer: the input behind it stands in as many bytes, or a fault and its place
abbrev pub IsInBounds : {A : Type 0} → ℕ → Result (A × Input) DecodeError → Type 0
IsInBounds total (Ok done) = StandsIn total done.1
IsInBounds total (Err e) = IsPlaced total e

not_of_bytes : (fault other : DecodeFault) → IsOfBytes fault → is_of_bytes other ≡ false → fault ≡ other → ⊥
not_of_bytes fault other h k e = let both : true ≡ false = sym h ∙ ap is_of_bytes e ∙ k in absurd (cc)

-- a fault of bytes that were read, at a place that was reached
pub placed : (total : ℕ) (fault : DecodeFault) (place : ℕ) → IsOfBytes fault → place ≤ total → IsPlaced total (record { at = place; fault = fault })
placed total fault place h p = (not_of_bytes fault Memory h refl, p, λ e. absurd (not_of_bytes fault Truncated h refl e))

-- the input, with more bytes behind it
abbrev pub longer : Input → List ℕ → Input
longer input more = record { at = input.at; end = input.end; rest = input.rest ++ more }

-- a fault, and the answer to the input with more bytes behind it: a byte was wanting; or it is the same fault, which stands
-- before the end of the bytes where it is of counts
abbrev pub IsFaultKept : {A : Type 0} → ℕ → DecodeError → Result (A × Input) DecodeError → Type 0
IsFaultKept total e r = (e.fault ≡ Truncated) ⊎ ((r ≡ Err e) × (e.fault ≡ CountMismatch → e.at < total))

-- an answer, and that to the input with more bytes behind it
abbrev pub IsKept : {A : Type 0} → ℕ → List ℕ → Result (A × Input) DecodeError → Result (A × Input) DecodeError → Type 0
IsKept total more (Ok done) r = r ≡ Ok (done.0, longer done.1 more)
IsKept total more (Err e) r = IsFaultKept total e r

pub record InBounds (total : ℕ) {A : Type 0} (read : Reader A) : Type 0 where
  pub holds : (input : Input) → StandsIn total input → IsInBounds total (read input)
  pub kept : (input : Input) (more : List ℕ) → StandsIn total input → IsKept total more (read input) (read (longer input more))

-- a fault of bytes that were read is the same where more follow
pub fault_settled : {A : Type 0} (total : ℕ) (fault : DecodeFault) (place : ℕ) (r : Result (A × Input) DecodeError) → IsOfBytes fault → r ≡ Err (record { at = place; fault = fault }) → IsFaultKept total (record { at = place; fault = fault }) r
fault_settled total fault place r h e = inr (e, λ c. absurd (not_of_bytes fault CountMismatch h refl c))

-- a byte, and what stands behind a content, where more bytes follow
first_kept : (total : ℕ) (more : List ℕ) (at : ℕ) (end : Option ℕ) (rest : List ℕ) → IsKept total more (first_byte at end rest) (first_byte at end (rest ++ more))
first_kept total more at end [] = inl refl
first_kept total more at end (b ∷ rest) = refl

byte_kept : (total : ℕ) (t : Bool) (input : Input) (more : List ℕ) →
    IsKept total more (if t then Err (record { at = input.at; fault = BadLength }) else first_byte input.at input.end input.rest)
    (if t then Err (record { at = input.at; fault = BadLength }) else first_byte input.at input.end (input.rest ++ more))
byte_kept total true input more = fault_settled total BadLength input.at _ refl refl
byte_kept total false input more = first_kept total more input.at input.end input.rest

ended_kept : {A : Type 0} (total : ℕ) (t : Bool) (end : Option ℕ) (value : A) (input : Input) (more : List ℕ) →
    IsKept {A = A} total more (if t then Ok (value, record { at = input.at; end = end; rest = input.rest }) else Err (record { at = input.at; fault = BadLength }))
    (if t then Ok (value, record { at = input.at; end = end; rest = input.rest ++ more }) else Err (record { at = input.at; fault = BadLength }))
ended_kept total true end value input more = refl
ended_kept total false end value input more = fault_settled total BadLength input.at _ refl refl

-- a value of a byte, or a fault of it
pub record IsKnown {A : Type 0} (r : Result A DecodeFault) : Type 0 where
  pub fault_of_bytes : (fault : DecodeFault) → r ≡ Err fault → IsOfBytes fault

pub known_value : {A : Type 0} (value : A) → IsKnown (Ok value)
known_value value = record { fault_of_bytes = λ fault e. absurd (cc) }

pub known_fault : {A : Type 0} (fault : DecodeFault) → IsOfBytes fault → IsKnown {A = A} (Err fault)
known_fault fault h = record {
  fault_of_bytes = λ other e.
      let same : fault ≡ other = cc in
      subst IsOfBytes same h;
}

pub known_if : {A : Type 0} (t : Bool) {x y : Result A DecodeFault} → IsKnown x → IsKnown y → IsKnown (if t then x else y)
known_if true h k = h
known_if false h k = k

module _ {total : ℕ} where
  pub bounds_give : {A : Type 0} (a : A) → InBounds total (give a)
  bounds_give a = record { holds = λ input h. h; kept = λ input more s. refl }

  pub bounds_fail : {A : Type 0} (fault : DecodeFault) (place : ℕ) → IsOfBytes fault → place ≤ total → InBounds total (fail {A = A} fault place)
  bounds_fail fault place b p = record { holds = λ input h. placed total fault place b p; kept = λ input more s. fault_settled total fault place _ b refl }

  pub and_then_bounds : {A B : Type 0} (r : Result (A × Input) DecodeError) (next : A → Reader B) → IsInBounds total r → ((a : A) (input : Input) → StandsIn total input → IsInBounds total (next a input)) → IsInBounds total (and_then r next)
  and_then_bounds (Ok done) next h k = k done.0 done.1 h
  and_then_bounds (Err e) next h k = h

  and_then_kept : {A B : Type 0} (more : List ℕ) (r longer_r : Result (A × Input) DecodeError) (next : A → Reader B) → IsInBounds total r → IsKept total more r longer_r → ((a : A) → InBounds total (next a)) →
      IsKept total more (and_then r next) (and_then longer_r next)
  and_then_kept more (Ok done) longer_r next s q k = subst (λ z. IsKept total more (next done.0 done.1) (and_then z next)) (sym q) ((k done.0).kept done.1 more s)
  and_then_kept more (Err e) longer_r next s (inl wanting) k = inl wanting
  and_then_kept more (Err e) longer_r next s (inr settled) k = inr (ap (λ z. and_then z next) settled.0, settled.1)

  pub bounds_then : {A B : Type 0} {first : Reader A} {next : A → Reader B} → InBounds total first → ((a : A) → InBounds total (next a)) → InBounds total (first >>= next)
  bounds_then {first = first} {next = next} h k = record {
    holds = λ input s. and_then_bounds (first input) next (h.holds input s) (λ a. (k a).holds);
    kept = λ input more s. and_then_kept more (first input) (first (longer input more)) next (h.holds input s) (h.kept input more s) k;
  }

  -- behind the place where reading stands, which is in the bytes
  pub bounds_here : {B : Type 0} {next : ℕ → Reader B} → ((place : ℕ) → place ≤ total → InBounds total (next place)) → InBounds total (here >>= next)
  bounds_here k = record { holds = λ input s. (k input.at (omega arith)).holds input s; kept = λ input more s. (k input.at (omega arith)).kept input more s }

  pub bounds_if : {A : Type 0} (t : Bool) {r s : Reader A} → InBounds total r → InBounds total s → InBounds total (if t then r else s)
  bounds_if true h k = h
  bounds_if false h k = k

  first_bounds : (at : ℕ) (end : Option ℕ) (rest : List ℕ) → at + length rest ≡ total → IsInBounds total (first_byte at end rest)
  first_bounds at end [] h = ((λ e. cc), omega arith, λ e. omega arith)
  first_bounds at end (b ∷ rest) h = omega arith

  byte_bounds : (t : Bool) (input : Input) → StandsIn total input → IsInBounds total (if t then Err (record { at = input.at; fault = BadLength }) else first_byte input.at input.end input.rest)
  byte_bounds true input h = placed total BadLength input.at refl (omega arith)
  byte_bounds false input h = first_bounds input.at input.end input.rest h

  pub bounds_byte : InBounds total byte_at
  bounds_byte = record { holds = λ input h. byte_bounds (is_at_end input) input h; kept = λ input more s. byte_kept total (is_at_end input) input more }

  pub bounds_each : {A : Type 0} {item : Reader A} → InBounds total item → (n : ℕ) → InBounds total (each_at item n)
  bounds_each h zero = bounds_give _
  bounds_each h (suc n) = bounds_then h (λ x. bounds_then (bounds_each h n) (λ xs. bounds_give _))

  bounds_number_or : (place : ℕ) (n : Option ℕ) → place ≤ total → InBounds total (number_or place n)
  bounds_number_or place None h = bounds_fail BadLeb place refl h
  bounds_number_or place (Some n) h = bounds_give n

  bounds_number : (end_of : ℕ → ℕ → Option ℕ) (most limit : ℕ) → InBounds total (number_at end_of most limit)
  bounds_number end_of zero limit = record { holds = λ input h. placed total BadLeb input.at refl (omega arith); kept = λ input more s. fault_settled total BadLeb input.at _ refl refl }
  bounds_number end_of (suc most) limit =
      bounds_here (λ place h. bounds_then bounds_byte (λ b.
      bounds_if (nat_lt b 128) (bounds_number_or place (end_of limit b) h)
      (bounds_if (nat_lt 128 limit) (bounds_then (bounds_number end_of most (limit / 128)) (λ m. bounds_give (b - 128 + 128 * m))) (bounds_fail BadLeb place refl h))))

  pub bounds_u32 : InBounds total u32_at
  bounds_u32 = bounds_number unsigned_end 5 (2 ^ 32)

  pub bounds_s32 : InBounds total s32_at
  bounds_s32 = bounds_number signed_end 5 (2 ^ 32)

  pub bounds_s64 : InBounds total s64_at
  bounds_s64 = bounds_number signed_end 10 (2 ^ 64)

  bounds_tagged : {A : Type 0} (place : ℕ) (r : Result A DecodeFault) → IsKnown r → place ≤ total → InBounds total (tagged place r)
  bounds_tagged place (Ok v) k h = bounds_give v
  bounds_tagged place (Err fault) k h = bounds_fail fault place (k.fault_of_bytes fault refl) h

  pub bounds_tag : {A : Type 0} (of : ℕ → Result A DecodeFault) → ((b : ℕ) → IsKnown (of b)) → InBounds total (tag_at of)
  bounds_tag of k = bounds_here (λ place h. bounds_then bounds_byte (λ b. bounds_tagged place (of b) (k b) h))

  pub bounds_only : (wanted : ℕ) → InBounds total (tag_at (only wanted))
  bounds_only wanted = bounds_tag (only wanted) (λ b. known_if (b == wanted) (known_value tt) (known_fault BadTag refl))

  pub bounds_vector : {A : Type 0} {item : Reader A} → InBounds total item → InBounds total (vector_at item)
  bounds_vector h = bounds_then bounds_u32 (λ n. bounds_each h n)

  pub bounds_name : InBounds total name_at
  bounds_name =
      bounds_then bounds_u32 (λ n. bounds_here (λ place h. bounds_then (bounds_each bounds_byte n) (λ bytes.
      bounds_if (is_utf8 bytes) (bounds_give bytes) (bounds_fail BadUtf8 place refl h))))

  ended_bounds : {A : Type 0} (t : Bool) (end : Option ℕ) (value : A) (input : Input) → StandsIn total input → IsInBounds {A = A} total (if t then Ok (value, record { at = input.at; end = end; rest = input.rest }) else Err (record { at = input.at; fault = BadLength }))
  ended_bounds true end value input h = h
  ended_bounds false end value input h = placed total BadLength input.at refl (omega arith)

  bounds_ended : {A : Type 0} (end : Option ℕ) (stop : ℕ) (value : A) → InBounds total (ended end stop value)
  bounds_ended end stop value = record {
    holds = λ input s. ended_bounds (input.at == stop) end value input s;
    kept = λ input more s. ended_kept total (input.at == stop) end value input more;
  }

  pub bounds_within : {A : Type 0} (stop : ℕ) {content : Reader A} → InBounds total content → InBounds total (within stop content)
  bounds_within stop {content} h = record {
    holds = λ input s.
        let inner : Input = record { at = input.at; end = Some (lesser_end input.end stop); rest = input.rest } in
        and_then_bounds (content inner) (ended input.end stop) (h.holds inner s) (λ value. (bounds_ended input.end stop value).holds);
    kept = λ input more s.
        let inner : Input = record { at = input.at; end = Some (lesser_end input.end stop); rest = input.rest } in
        and_then_kept more (content inner) (content (longer inner more)) (ended input.end stop) (h.holds inner s) (h.kept inner more s) (bounds_ended input.end stop);
  }

  pub bounds_sized : {A : Type 0} {content : Reader A} → InBounds total content → InBounds total (sized_at content)
  bounds_sized h = bounds_then bounds_u32 (λ size. bounds_here (λ place p. bounds_within (place + size) h))
