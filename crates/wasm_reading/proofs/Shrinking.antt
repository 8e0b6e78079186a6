-- A reader takes bytes from the front of its input, so that no more bytes stand behind it than before. Shown of each
-- reader by how it is put together.
use Rattle.std.proofs.Common.{◌≡◌, ℕ, zero, suc, ◌+◌, ◌-◌, ◌*◌, ◌/◌, ◌^◌, ◌≤◌, List, [], ◌∷◌, length, refl, ap, arith}
use Rattle.std.specs.Prelude.{Option, None, Some, Result, Ok, Err, Bool, true, false, if◌then◌else◌, ◌==◌, nat_lt}
use Rattle.wasm_reading.specs.declared.fault.DecodeError.{DecodeError}
use Rattle.wasm_reading.specs.declared.fault.DecodeFault.{DecodeFault}
use Rattle.wasm_reading.specs.declared.fault.DecodeFault.TheVariants.{BadLeb}
use Rattle.wasm_reading.specs.Readers.{Input, Reader, and_then, ◌>>=◌, give, fail, fail_here, here, is_at_end, first_byte, byte_at, each_at, ended, within, lesser_end}
use Rattle.wasm_reading.specs.ReadValues.{unsigned_end, signed_end, number_or, number_at, u32_at, s32_at, s64_at, tagged, tag_at, vector_at, name_at, sized_at}

pub record Shrinks {A : Type 0} (read : Reader A) : Type 0 where
  pub less : (input behind : Input) (a : A) → read input ≡ Ok (a, behind) → length behind.rest ≤ length input.rest

-- how many bytes stand behind what was read
abbrev pub left : {A : Type 0} → Result (A × Input) DecodeError → ℕ
left (Ok done) = length done.1.rest
left (Err e) = 0

pub shrinks_give : {A : Type 0} (a : A) → Shrinks (give a)
shrinks_give a = record { less = λ input behind b e. let same : length input.rest ≡ length behind.rest = ap left e in omega arith }

pub shrinks_fail : {A : Type 0} (fault : DecodeFault) (at : ℕ) → Shrinks (fail {A = A} fault at)
shrinks_fail fault at = record { less = λ input behind b e. absurd (cc) }

pub shrinks_fail_here : {A : Type 0} (fault : DecodeFault) → Shrinks (fail_here {A = A} fault)
shrinks_fail_here fault = record { less = λ input behind b e. absurd (cc) }

pub shrinks_here : Shrinks here
shrinks_here = record { less = λ input behind b e. let same : length input.rest ≡ length behind.rest = ap left e in omega arith }

then_by : {A B : Type 0} (o : Result (A × Input) DecodeError) (next : A → Reader B) (n : ℕ) (behind : Input) (b : B) →
    ((a : A) (mid : Input) → o ≡ Ok (a, mid) → length mid.rest ≤ n) → ((a : A) → Shrinks (next a)) → and_then o next ≡ Ok (b, behind) → length behind.rest ≤ n
then_by (Ok done) next n behind b h k e = let h' = h done.0 done.1 refl in let k' = (k done.0).less done.1 behind b e in omega arith
then_by (Err x) next n behind b h k e = absurd (cc)

pub shrinks_then : {A B : Type 0} {first : Reader A} {next : A → Reader B} → Shrinks first → ((a : A) → Shrinks (next a)) → Shrinks (first >>= next)
shrinks_then {A} {B} {first} {next} h k = record { less = λ input behind b e. then_by (first input) next (length input.rest) behind b (λ a mid e'. h.less input mid a e') k e }

first_less : (at : ℕ) (end : Option ℕ) (rest : List ℕ) (behind : Input) (b : ℕ) → first_byte at end rest ≡ Ok (b, behind) → suc (length behind.rest) ≤ length rest
first_less at end [] behind b e = absurd (cc)
first_less at end (c ∷ bs) behind b e = let same : length bs ≡ length behind.rest = ap left e in omega arith

if_less : (t : Bool) (x : Result (ℕ × Input) DecodeError) (e : DecodeError) (n : ℕ) (behind : Input) (b : ℕ) →
    (x ≡ Ok (b, behind) → suc (length behind.rest) ≤ n) → (if t then Err e else x) ≡ Ok (b, behind) → suc (length behind.rest) ≤ n
if_less true x e n behind b h k = absurd (cc)
if_less false x e n behind b h k = h k

-- a byte is taken
pub byte_less : (input behind : Input) (b : ℕ) → byte_at input ≡ Ok (b, behind) → suc (length behind.rest) ≤ length input.rest
byte_less input behind b e = if_less (is_at_end input) (first_byte input.at input.end input.rest) _ (length input.rest) behind b (first_less input.at input.end input.rest behind b) e

pub shrinks_byte : Shrinks byte_at
shrinks_byte = record { less = λ input behind b e. let h = byte_less input behind b e in omega arith }

pub shrinks_if : {A : Type 0} (t : Bool) {r s : Reader A} → Shrinks r → Shrinks s → Shrinks (if t then r else s)
shrinks_if true h k = h
shrinks_if false h k = k

pub shrinks_each : {A : Type 0} {item : Reader A} → Shrinks item → (n : ℕ) → Shrinks (each_at item n)
shrinks_each h zero = shrinks_give _
shrinks_each h (suc n) = shrinks_then h (λ x. shrinks_then (shrinks_each h n) (λ xs. shrinks_give _))

pub shrinks_number_or : (place : ℕ) (n : Option ℕ) → Shrinks (number_or place n)
shrinks_number_or place None = shrinks_fail _ _
shrinks_number_or place (Some n) = shrinks_give n

pub shrinks_number : (end_of : ℕ → ℕ → Option ℕ) (most limit : ℕ) → Shrinks (number_at end_of most limit)
shrinks_number end_of zero limit = shrinks_fail_here _
shrinks_number end_of (suc most) limit =
    shrinks_then shrinks_here (λ place. shrinks_then shrinks_byte (λ b.
    shrinks_if (nat_lt b 128) (shrinks_number_or place (end_of limit b))
    (shrinks_if (nat_lt 128 limit) (shrinks_then (shrinks_number end_of most (limit / 128)) (λ m. shrinks_give (b - 128 + 128 * m))) (shrinks_fail BadLeb place))))

pub shrinks_u32 : Shrinks u32_at
shrinks_u32 = shrinks_number unsigned_end 5 (2 ^ 32)

pub shrinks_s32 : Shrinks s32_at
shrinks_s32 = shrinks_number signed_end 5 (2 ^ 32)

pub shrinks_s64 : Shrinks s64_at
shrinks_s64 = shrinks_number signed_end 10 (2 ^ 64)

pub shrinks_tagged : {A : Type 0} (place : ℕ) (r : Result A DecodeFault) → Shrinks (tagged place r)
shrinks_tagged place (Ok v) = shrinks_give v
shrinks_tagged place (Err f) = shrinks_fail _ _

pub shrinks_tag : {A : Type 0} (of : ℕ → Result A DecodeFault) → Shrinks (tag_at of)
shrinks_tag of = shrinks_then shrinks_here (λ place. shrinks_then shrinks_byte (λ b. shrinks_tagged place (of b)))

pub shrinks_vector : {A : Type 0} {item : Reader A} → Shrinks item → Shrinks (vector_at item)
shrinks_vector h = shrinks_then shrinks_u32 (λ n. shrinks_each h n)

pub shrinks_name : Shrinks name_at
shrinks_name = shrinks_then shrinks_u32 (λ n. shrinks_then shrinks_here (λ place. shrinks_then (shrinks_each shrinks_byte n) (λ bytes. shrinks_if _ (shrinks_give _) (shrinks_fail _ _))))

ended_by : {A : Type 0} (t : Bool) (done : A × Input) (a : A) (x : DecodeError) (behind : Input) →
    (if t then Ok done else Err x) ≡ Ok (a, behind) → length behind.rest ≤ length done.1.rest
ended_by true done a x behind e = let same : length done.1.rest ≡ length behind.rest = ap left e in omega arith
ended_by false done a x behind e = absurd (cc)

pub shrinks_ended : {A : Type 0} (end : Option ℕ) (stop : ℕ) (value : A) → Shrinks (ended end stop value)
shrinks_ended end stop value = record { less = λ input behind a e. ended_by (input.at == stop) (value, record { at = input.at; end = end; rest = input.rest }) a _ behind e }

pub shrinks_within : {A : Type 0} (stop : ℕ) {content : Reader A} → Shrinks content → Shrinks (within stop content)
shrinks_within stop {content} h = record {
  less = λ input behind a e.
      let inner : Input = record { at = input.at; end = Some (lesser_end input.end stop); rest = input.rest } in
      then_by (content inner) (ended input.end stop) (length input.rest) behind a (λ c mid e'. h.less inner mid c e') (λ c. shrinks_ended input.end stop c) e;
}

pub shrinks_sized : {A : Type 0} {content : Reader A} → Shrinks content → Shrinks (sized_at content)
shrinks_sized h = shrinks_then shrinks_u32 (λ size. shrinks_then shrinks_here (λ place. shrinks_within (place + size) h))
