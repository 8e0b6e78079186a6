-- A decoder that answered no error has no fault that all continuations of its input have: some continuation is
-- truncated, and a fault for want of a byte is undecided, by the law of reading.
use Rattle.std.proofs.Common.{◌≡◌, ◌∙◌, ℕ, ◌+◌, Bool, true, false, List, [], ◌∷◌, ◌++◌, append_assoc, append-nil, refl, ap, sym, ◌⊎◌, inl, inr}
use Rattle.std.proofs.lemmas.Bool.{ltb-true, ltb-false}
use Rattle.std.specs.Prelude.{None, Result, Ok, Err, OnOk, nat_lt}
use Rattle.wasm_ast.specs.declared.modules.WModule.{WModule}
use Rattle.wasm_reading.specs.declared.fault.DecodeError.{DecodeError}
use Rattle.wasm_reading.specs.declared.fault.DecodeFault.TheVariants.{Truncated}
use Rattle.wasm_reading.specs.Readers.{Reader}
use Rattle.wasm_reading.specs.ReadModules.{reading_of, without_rest}
use Rattle.wasm_reading_laws.proofs.Faults.{truncated_is_undecided}
use Rattle.wasm_items.specs.Residuals.{no_memory}
use Rattle.wasm_decode.specs.declared.state.DecoderState.{DecoderState}
use Rattle.wasm_decode.specs.declared.steps.Step.{Step}
use Rattle.wasm_decode.specs.declared.steps.Step.TheVariants.{Preamble, Between, Size, Custom, Content}
use Rattle.wasm_decode.specs.Decoding.{answer_of, IsSettled, Resumes}
use Rattle.wasm_decode.specs.Steps.{IsTruncated, rest_of_step, sections_left}
use Rattle.wasm_decode.specs.CustomSteps.{IsBetween}
use Rattle.wasm_decode.proofs.Advancing.{preamble_over}
use Rattle.wasm_decode.proofs.Decoding.{answer_wanting, answer_whole, preamble_truncated, size_truncated, custom_truncated, content_truncated}

-- behind a piece
pub resumes_behind : (d d' : DecoderState) (piece : List ℕ) → ((rest : List ℕ) → answer_of d' rest ≡ answer_of d (piece ++ rest)) → (fed : List ℕ) → Resumes d fed → Resumes d' (fed ++ piece)
resumes_behind d d' piece ok fed r = λ rest. ok rest ∙ r (piece ++ rest) ∙ ap reading_of (sym (append_assoc fed piece rest))

pub settled_or : (d : DecoderState) (piece : List ℕ) (e : DecodeError) → (e ≡ no_memory) ⊎ ((rest : List ℕ) → answer_of d (piece ++ rest) ≡ Err e) → (fed : List ℕ) → Resumes d fed →
    (e ≡ no_memory) ⊎ IsSettled (fed ++ piece) e
settled_or d piece e (inl memory) fed r = inl memory
settled_or d piece e (inr stops) fed r = inr (λ rest. ap reading_of (append_assoc fed piece rest) ∙ sym (r (piece ++ rest)) ∙ stops rest)

-- a byte is wanted, or the input may end or go on by a section
abbrev pub WantsOrIsBetween : Step → ℕ → ℕ → WModule → Type 0
WantsOrIsBetween s at last m = IsTruncated (rest_of_step at last m s) at ⊎ IsBetween s

in_preamble : (k at last : ℕ) (m : WModule) (t : Bool) → nat_lt k 8 ≡ t → WantsOrIsBetween (Preamble k) at last m
in_preamble k at last m true e = inl (preamble_truncated k at last m (ltb-true k 8 e))
in_preamble k at last m false e = inr (ltb-false k 8 e)

pub wants_or_is_between : (s : Step) (at last : ℕ) (m : WModule) → WantsOrIsBetween s at last m
wants_or_is_between (Preamble k) at last m = in_preamble k at last m (nat_lt k 8) refl
wants_or_is_between Between at last m = inr tt
wants_or_is_between (Size id number) at last m = inl (size_truncated id at last m number)
wants_or_is_between (Custom behind) at last m = inl (custom_truncated behind at last m)
wants_or_is_between (Content behind content) at last m = inl (content_truncated behind at last m content)

goes_on : (s : Step) (at last : ℕ) (m : WModule) → IsBetween s → rest_of_step at last m s ≡ sections_left last m
goes_on (Preamble k) at last m over = preamble_over k last m over
goes_on Between at last m is = refl
goes_on (Size id number) at last m is = absurd is
goes_on (Custom behind) at last m is = absurd is
goes_on (Content behind content) at last m is = absurd is

-- the input ends behind the id of a custom section
id_truncated : (at last : ℕ) (m : WModule) → sections_left last m (record { at = at; end = None; rest = 0 ∷ [] }) ≡ Err (record { at = at + 1; fault = Truncated })
id_truncated at last m = refl

-- some continuation is truncated
abbrev TruncatesBy : DecoderState → List ℕ → ℕ → Type 0
TruncatesBy d rest at = answer_of d rest ≡ Err (record { at = at; fault = Truncated })

some_truncated : (d : DecoderState) → d.failed ≡ None → WantsOrIsBetween d.step d.at d.last d.built → (rest : List ℕ) × (at : ℕ) × TruncatesBy d rest at
some_truncated d is (inl t) = ([], d.at, answer_wanting d is t)
some_truncated d is (inr between) = (
  0 ∷ [],
  d.at + 1,
  answer_whole d is (0 ∷ [])
      ∙ ap (λ (r : Reader WModule). without_rest (r (record { at = d.at; end = None; rest = 0 ∷ [] }))) (goes_on d.step d.at d.last d.built between)
      ∙ ap without_rest (id_truncated d.at d.last d.built),
)

fault_is : (r : Result WModule DecodeError) (e : DecodeError) (at : ℕ) → r ≡ Err (record { at = at; fault = Truncated }) → r ≡ Err e → e.fault ≡ Truncated
fault_is r e at p q = let same : e ≡ record { at = at; fault = Truncated } = cc in ap (λ (x : DecodeError). x.fault) same

not_settled : (d : DecoderState) → d.failed ≡ None → (fed : List ℕ) → Resumes d fed → (e : DecodeError) → IsSettled fed e → ⊥
not_settled d is fed r e s =
    let some = some_truncated d is (wants_or_is_between d.step d.at d.last d.built) in
    let truncated : e.fault ≡ Truncated = fault_is (answer_of d some.0) e some.1 some.2 (r some.0 ∙ s some.0) in
    truncated_is_undecided fed e (ap reading_of (sym (append-nil fed)) ∙ s []) truncated 0 (s (0 ∷ []))

-- behind a piece of which no error was answered
pub undecided_behind : (d d' : DecoderState) (piece : List ℕ) (r : Result (Unit {0}) DecodeError) → OnOk r ((rest : List ℕ) → answer_of d' rest ≡ answer_of d (piece ++ rest)) → OnOk r (d'.failed ≡ None) →
    OnOk r ((fed : List ℕ) → Resumes d fed → (e : DecodeError) → IsSettled (fed ++ piece) e → ⊥)
undecided_behind d d' piece (Ok x) ok is = λ fed r e s. not_settled d' is (fed ++ piece) (resumes_behind d d' piece ok fed r) e s
undecided_behind d d' piece (Err x) ok is = tt
