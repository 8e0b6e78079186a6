-- Behind so many bytes reading stands so many places on, so the place of a name's first byte is known there.
-- By induction on the number of bytes.
use Rattle.std.proofs.Common.{◌≡◌, ◌∙◌, ℕ, zero, suc, ◌+◌, ◌-◌, List, [], ◌∷◌, length, Option, Result, Ok, Err, IfOk, refl, ap, sym, arith}
use Rattle.std.proofs.Math.Path.{fun_ext}
use Rattle.std.proofs.lemmas.Bool.{cond_both}
use Rattle.wasm_reading.specs.declared.fault.DecodeError.{DecodeError}
use Rattle.wasm_reading.specs.declared.fault.DecodeFault.TheVariants.{BadLength}
use Rattle.wasm_reading.specs.Readers.{Input, Reader, and_then, ◌>>=◌, give, here, byte_at, first_byte, is_at_end, each_at}
use Rattle.wasm_reading.specs.ReadValues.{u32_at, vector_at, name_at}
use Rattle.wasm_items.specs.NameStates.{checked, checked_behind}
use Rattle.wasm_items.proofs.ReaderLaws.{then_then, then_same}

-- so many values were read, and so many bytes
abbrev CountsOn : {A : Type 0} → ℕ → ℕ → List A × Input → Type 0
CountsOn at n done = (done.1.at ≡ at + n) × (length done.0 ≡ n)

one_on : (at : ℕ) (end : Option ℕ) (rest : List ℕ) → IfOk (first_byte at end rest) (λ done. done.1.at ≡ at + 1)
one_on at end [] = tt
one_on at end (b ∷ bs) = refl

byte_on : (input : Input) → IfOk (byte_at input) (λ done. done.1.at ≡ input.at + 1)
byte_on input =
    cond_both (is_at_end input) (Err (record { at = input.at; fault = BadLength })) (first_byte input.at input.end input.rest) (λ answer. IfOk answer (λ done. done.1.at ≡ input.at + 1)) (λ _. tt) (λ _. one_on input.at input.end input.rest)

behind : {A B : Type 0} (first : Result (A × Input) DecodeError) (next : A → Reader B) (P : A × Input → Type 0) (Q : B × Input → Type 0) → IfOk first P → ((done : A × Input) → P done → IfOk (next done.0 done.1) Q) → IfOk (and_then first next) Q
behind (Ok done) next P Q h k = k done h
behind (Err e) next P Q h k = tt

all_on : (n : ℕ) (input : Input) → IfOk (each_at byte_at n input) (CountsOn input.at n)
all_on zero input = (omega arith, refl)
all_on (suc n) input =
    behind (byte_at input) (λ b. each_at byte_at n >>= (λ bs. give (b ∷ bs))) (λ done. done.1.at ≡ input.at + 1) (CountsOn input.at (suc n)) (byte_on input)
    (λ done one. behind (each_at byte_at n done.1) (λ bs. give (done.0 ∷ bs)) (CountsOn done.1.at n) (CountsOn input.at (suc n)) (all_on n done.1)
    (λ all more. (omega (arith, one, more.0), ap suc more.1)))

same_place : (n at : ℕ) (answer : Result (List ℕ × Input) DecodeError) → IfOk answer (CountsOn at n) → and_then answer (checked at) ≡ and_then answer checked_behind
same_place n at (Ok done) h =
    let e : at ≡ done.1.at - length done.0 = omega (arith, h.0, h.1) in
    ap (λ place. checked place done.0 done.1) e
same_place n at (Err e) h = refl

bytes_checked : (n : ℕ) → here >>= (λ place. each_at byte_at n >>= checked place) ≡ each_at byte_at n >>= checked_behind
bytes_checked n = fun_ext (λ input. same_place n input.at (each_at byte_at n input) (all_on n input))

-- A name is a vector of bytes that is looked at behind the last one.
pub whole_name : name_at ≡ vector_at byte_at >>= checked_behind
whole_name =
    then_same u32_at (λ n. here >>= (λ place. each_at byte_at n >>= checked place)) (λ n. each_at byte_at n >>= checked_behind) bytes_checked
    ∙ sym (then_then u32_at (each_at byte_at) checked_behind)
