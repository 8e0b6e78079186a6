-- How readers that are made of others take a byte: each step of a state is one of these lemmas.
-- Each is the definition of its reader, at the byte.
use Rattle.std.proofs.Common.{◌≡◌, ◌∙◌, ℕ, ◌+◌, Bool, false, cond, eqb, min, List, ◌∷◌, Option, None, Some, Result, Ok, Err, ◌⊎◌, inl, inr, ap, sym, arith}
use Rattle.std.proofs.lemmas.Bool.{cases_lt, ne_eqb, eqb-false}
use Rattle.std.specs.Result.{IsErrAnd}
use Rattle.wasm_reading.specs.declared.fault.DecodeError.{DecodeError}
use Rattle.wasm_reading.specs.declared.fault.DecodeFault.{DecodeFault}
use Rattle.wasm_reading.specs.declared.fault.DecodeFault.TheVariants.{BadLength}
use Rattle.wasm_reading.specs.Readers.{Reader, and_then, ◌>>=◌, give, here, byte_at, is_at_end, lesser_end, within, ended}
use Rattle.wasm_reading.specs.ReadValues.{tag_at, tagged}
use Rattle.wasm_items.specs.declared.progress.Progress.{Progress}
use Rattle.wasm_items.specs.Residuals.{Takes, Stops, stop, answered, Pushes, PushesExactly, placed}

-- A byte is read.
pub takes_byte : {A : Type 0} (b at : ℕ) (f : ℕ → Reader A) → Takes (byte_at >>= f) b at (f b)
takes_byte b at f = record {
  same = λ end bs before.
      ap (λ (c : Bool). and_then (cond c (Err (record { at = at; fault = BadLength })) (Ok (b, record { at = at + 1; end = end; rest = bs }))) f) before;
}

-- The place is known.
pub takes_here : {A : Type 0} {b at : ℕ} {new : Reader A} (f : ℕ → Reader A) → Takes (f at) b at new → Takes (here >>= f) b at new
takes_here f t = record { same = t.same }

-- What is read behind is still to be read.
pub takes_then : {A B : Type 0} {old new : Reader A} {b at : ℕ} (f : A → Reader B) → Takes old b at new → Takes (old >>= f) b at (new >>= f)
takes_then f t = record { same = λ end bs before. ap (λ done. and_then done f) (t.same end bs before) }

-- The same, with the new reader in other words.
pub takes_as : {A : Type 0} {old new other : Reader A} {b at : ℕ} → new ≡ other → Takes old b at new → Takes old b at other
takes_as e t = rw e at t

-- The same, with the old reader in other words.
pub takes_of : {A : Type 0} {old other new : Reader A} {b at : ℕ} → other ≡ old → Takes old b at new → Takes other b at new
takes_of e t = rw e t

-- The same behind the byte, where reading stands one place on.
pub takes_point : {A : Type 0} {old new other : Reader A} {b at : ℕ} → ((end : Option ℕ) (bs : List ℕ) → new (record { at = at + 1; end = end; rest = bs }) ≡ other (record { at = at + 1; end = end; rest = bs })) → Takes old b at new → Takes old b at other
takes_point e t = record { same = λ end bs before. t.same end bs before ∙ e end bs }

cases_min : (m n : ℕ) → (min m n ≡ m) ⊎ (min m n ≡ n)
cases_min m n = elim (cases_lt m n) [ inl less ↦ inl (omega arith) | inr more ↦ inr (omega arith) ]

before_both : (at stop : ℕ) (end : Option ℕ) (b : ℕ) (bs : List ℕ) → eqb at stop ≡ false → is_at_end (record { at = at; end = end; rest = b ∷ bs }) ≡ false → is_at_end (record { at = at; end = Some (lesser_end end stop); rest = b ∷ bs }) ≡ false
before_both at stop None b bs inner outer = inner
before_both at stop (Some end) b bs inner outer =
    ne_eqb at (min end stop) (λ e. elim (cases_min end stop) [ inl m ↦ eqb-false at end outer (e ∙ m) | inr m ↦ eqb-false at stop inner (e ∙ m) ])

-- A content of a declared end, before that end.
pub takes_within : {A : Type 0} {content new : Reader A} {b at : ℕ} (stop : ℕ) → eqb at stop ≡ false → Takes content b at new → Takes (within stop content) b at (within stop new)
takes_within {b} {at} stop inner t = record {
  same = λ end bs outer. ap (λ done. and_then done (ended end stop)) (t.same (Some (lesser_end end stop)) bs (before_both at stop end b bs inner outer));
}

-- A byte by a table.
pub takes_tag : {A : Type 0} (b at : ℕ) (of : ℕ → Result A DecodeFault) → Takes (tag_at of) b at (tagged at (of b))
takes_tag b at of = takes_here (λ place. byte_at >>= (λ b. tagged place (of b))) (takes_byte b at (λ b. tagged at (of b)))

tagged_ok : {A : Type 0} (at : ℕ) (said : Result A DecodeFault) {x : A} → Ok x ≡ placed at said → tagged at said ≡ give x
tagged_ok at (Ok y) e = ap give cc
tagged_ok at (Err fault) e = cc

tagged_err : {A : Type 0} (at : ℕ) (said : Result A DecodeFault) {e : DecodeError} → Err e ≡ placed at said → tagged at said ≡ stop e
tagged_err at (Ok y) e = cc
tagged_err at (Err fault) e = ap stop cc

-- A byte that stands for a value.
pub takes_tag_ok : {A : Type 0} (b at : ℕ) (of : ℕ → Result A DecodeFault) {x : A} → Ok x ≡ placed at (of b) → Takes (tag_at of) b at (give x)
takes_tag_ok b at of e = takes_as (tagged_ok at (of b) e) (takes_tag b at of)

-- A byte that stands for none.
pub takes_tag_err : {A : Type 0} (b at : ℕ) (of : ℕ → Result A DecodeFault) {e : DecodeError} → Err e ≡ placed at (of b) → Takes (tag_at of) b at (stop e)
takes_tag_err b at of e = takes_as (tagged_err at (of b) e) (takes_tag b at of)

-- The exit of a `?`: the fault is that of the callee.
pub takes_exit : {S A : Type 0} {old : Reader A} {b at : ℕ} (rest_of : S → Reader A) (answer : Result (Progress S A) DecodeError) {e : DecodeError} → IsErrAnd answer (λ given. given ≡ e) → Takes old b at (stop e) → Takes old b at (answered rest_of answer)
takes_exit rest_of (Ok progress) is t = absurd is
takes_exit rest_of (Err given) is t = takes_as (ap stop (sym is)) t

-- A fault with what is read behind still to be read.
pub stops_then : {A B : Type 0} {old : Reader A} {b at : ℕ} {e : DecodeError} (f : A → Reader B) → Stops old b at e → Stops (old >>= f) b at e
stops_then f (inl none) = inl none
stops_then f (inr t) = inr (takes_then f t)

pub pushes_exit : {S A : Type 0} {old : Reader A} {b at : ℕ} (rest_of : S → Reader A) (answer : Result (Progress S A) DecodeError) {e : DecodeError} → IsErrAnd answer (λ given. given ≡ e) → Stops old b at e → Pushes rest_of old b at answer
pushes_exit rest_of (Ok progress) is stops = absurd is
pushes_exit rest_of (Err given) is stops = rw is stops

-- What takes no memory is a case of what may.
pub pushes_exactly : {S A : Type 0} {old : Reader A} {b at : ℕ} (rest_of : S → Reader A) (answer : Result (Progress S A) DecodeError) → PushesExactly rest_of old b at answer → Pushes rest_of old b at answer
pushes_exactly rest_of (Ok progress) t = t
pushes_exactly rest_of (Err given) t = inr t

-- The answer is another function's, which says what is read behind it.
pub pushes_answered : {S A : Type 0} {old reader : Reader A} {b at : ℕ} (rest_of : S → Reader A) (answer : Result (Progress S A) DecodeError) → answered rest_of answer ≡ reader → Takes old b at reader → Pushes rest_of old b at answer
pushes_answered rest_of (Ok progress) e t = takes_as (sym e) t
pushes_answered rest_of (Err given) e t = inr (takes_as (sym e) t)
