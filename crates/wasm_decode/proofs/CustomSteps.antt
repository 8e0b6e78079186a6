-- Steps through the id and the size of a custom section: a byte of its size leaves the bytes behind it, and the last one
-- leaves the content. By the residual of the number.
use Rattle.std.proofs.Common.{◌≡◌, ◌∙◌, ℕ, ◌+◌, List, [], ◌∷◌, ◌++◌, length, append-nil, refl, ap, sym, subst, arith, inl, inr}
use Rattle.std.specs.Prelude.{None, Result, Ok, Err}
use Rattle.wasm_grammar.specs.GrammarValues.{IsUnsigned}
use Rattle.wasm_reading.specs.declared.fault.DecodeError.{DecodeError}
use Rattle.wasm_reading.specs.declared.fault.DecodeFault.TheVariants.{Truncated}
use Rattle.wasm_reading.specs.Readers.{Input, Reader, give}
use Rattle.wasm_reading_values.proofs.ExactNumbers.{u32}
use Rattle.wasm_items.specs.LebStates.{LebState, rest_of_leb}
use Rattle.wasm_items.specs.Residuals.{Takes, stop}
use Rattle.wasm_items.specs.WantsBytes.{wants_leb}
use Rattle.wasm_decode.specs.declared.steps.Step.{Step}
use Rattle.wasm_decode.specs.declared.steps.Step.TheVariants.{Size}
use Rattle.wasm_decode.specs.Steps.{custom_step}
use Rattle.wasm_decode.specs.CustomSteps.{BeginsCustom, Reads, IsInSize, TakesSize}

-- a number that was read, and what stands behind it
abbrev read : ℕ → ℕ → List ℕ → Result (ℕ × Input) DecodeError
read n at rest = Ok (n, record { at = at; end = None; rest = rest })

abbrev number_of : Result (ℕ × Input) DecodeError → ℕ
number_of (Ok done) = done.0
number_of (Err e) = 0

abbrev behind_of : Result (ℕ × Input) DecodeError → List ℕ
behind_of (Ok done) = done.1.rest
behind_of (Err e) = []

-- behind a byte
reads_on : {old new : Reader ℕ} {b at : ℕ} (left : List ℕ) (n : ℕ) → Takes old b at new → Reads old at (b ∷ left) n → Reads new (at + 1) left n
reads_on {old} {new} {b} {at} left n t r = λ rest.
    let place : at + length (b ∷ left) ≡ at + 1 + length left = omega arith in
    sym (t.same None (left ++ rest) refl) ∙ r rest ∙ ap (λ (p : ℕ). read n p rest) place

-- of a number that is whole nothing is left
reads_whole : (at n k : ℕ) (left : List ℕ) → Reads (give k) at left n → (left ≡ []) × (k ≡ n)
reads_whole at n k left r = (sym (append-nil left) ∙ ap behind_of (r []), ap number_of (r []))

-- of a number in the middle something is left
pub reads_some : (number : LebState) (at n : ℕ) → Reads (rest_of_leb number) at [] n → ⊥
reads_some number at n r =
    let none : rest_of_leb number (record { at = at; end = None; rest = [] }) ≡ Err (record { at = at; fault = Truncated }) = (wants_leb number).wants (record { at = at; end = None; rest = [] }) (record { at = at; fault = Truncated }) refl in
    let some : rest_of_leb number (record { at = at; end = None; rest = [] }) ≡ read n (at + length (let left : List ℕ = [] in left)) [] = r [] in
    absurd (cc)

pub size_more : (id b at : ℕ) (number further : LebState) → Takes (rest_of_leb number) b at (rest_of_leb further) → id ≡ 0 → TakesSize number b at (Ok (Size id further))
size_more id b at number further t zero = λ left n r. inl (further, ap (λ (i : ℕ). Size i further) zero, reads_on left n t r)

pub size_done : (b at size : ℕ) (number : LebState) (answer : Result Step DecodeError) → Takes (rest_of_leb number) b at (give size) → answer ≡ Ok (custom_step size) → TakesSize number b at answer
size_done b at size number answer t is = λ left n r.
    let whole = reads_whole (at + 1) n size left (reads_on left n t r) in
    let step : answer ≡ Ok (custom_step n) = is ∙ ap (λ (k : ℕ). Ok (custom_step k)) whole.1 in
    rw step (inr (whole.0, refl))

pub size_stops : (b at : ℕ) (number : LebState) (e : DecodeError) (answer : Result Step DecodeError) → Takes (rest_of_leb number) b at (stop e) → TakesSize number b at answer
size_stops b at number e answer t = λ left n r.
    let stops : rest_of_leb number (record { at = at; end = None; rest = b ∷ (left ++ []) }) ≡ Err e = t.same None (left ++ []) refl in
    let goes : rest_of_leb number (record { at = at; end = None; rest = b ∷ (left ++ []) }) ≡ read n (at + length (b ∷ left)) [] = r [] in
    absurd (cc)

-- a step in a size is in one size
pub size_of_step : (step : Step) (id b at : ℕ) (number : LebState) (answer : Result Step DecodeError) → step ≡ Size id number → (id ≡ 0 → TakesSize number b at answer) →
    (number' : LebState) → step ≡ Size 0 number' → TakesSize number' b at answer
size_of_step step id b at number answer is takes number' is' =
    let both : Size id number ≡ Size 0 number' = sym is ∙ is' in
    let zero : id ≡ 0 = cc in
    let same : number ≡ number' = cc in
    subst (λ (s : LebState). TakesSize s b at answer) same (takes zero)

-- a size from its first byte on
pub size_begun : (next : Step) (at n : ℕ) (left : List ℕ) → BeginsCustom next → IsUnsigned n left → IsInSize next at left n
size_begun next at n left begins spelled =
    inl (
      begins.0,
      begins.1,
      λ rest.
          let input : Input = record { at = at; end = None; rest = left ++ rest } in
          let behind : Input = record { at = at + length left; end = None; rest = rest } in
          ap (λ (r : Reader ℕ). r input) begins.2
          ∙ u32.complete input behind n (record { front = left; holds = spelled; whole = refl; place = refl; same_end = refl }) tt tt,
    )
