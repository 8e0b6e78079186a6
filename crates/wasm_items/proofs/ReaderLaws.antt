-- Laws of readers one behind another: a value read last changes nothing, and grouping does not matter.
-- By cases on what the first reader gives, at each input.
use Rattle.std.proofs.Common.{◌≡◌, Result, Ok, Err, refl, ap}
use Rattle.std.proofs.Math.Path.{fun_ext}
use Rattle.wasm_reading.specs.declared.fault.DecodeError.{DecodeError}
use Rattle.wasm_reading.specs.Readers.{Input, Reader, and_then, ◌>>=◌, give}

and_then-give : {A : Type 0} (done : Result (A × Input) DecodeError) → and_then done give ≡ done
and_then-give (Ok done) = refl
and_then-give (Err e) = refl

and_then-and_then : {A B C : Type 0} (done : Result (A × Input) DecodeError) (f : A → Reader B) (g : B → Reader C) → and_then (and_then done f) g ≡ and_then done (λ x. f x >>= g)
and_then-and_then (Ok done) f g = refl
and_then-and_then (Err e) f g = refl

-- A value that is given on as it is.
pub then_give : {A : Type 0} (reader : Reader A) → reader >>= give ≡ reader
then_give reader = fun_ext (λ input. and_then-give (reader input))

-- Three readers in a row.
pub then_then : {A B C : Type 0} (reader : Reader A) (f : A → Reader B) (g : B → Reader C) → (reader >>= f) >>= g ≡ reader >>= (λ x. f x >>= g)
then_then reader f g = fun_ext (λ input. and_then-and_then (reader input) f g)

-- What is read behind a value, in other words.
pub then_same : {A B : Type 0} (reader : Reader A) (f g : A → Reader B) → ((x : A) → f x ≡ g x) → reader >>= f ≡ reader >>= g
then_same {A} {B} reader f g same = ap (λ (h : A → Reader B). reader >>= h) (fun_ext same)
