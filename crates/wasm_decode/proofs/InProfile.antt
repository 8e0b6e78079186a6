-- Each module that a decoder may still answer is in the profile: what is read is spelled, and what is spelled is in it.
use Rattle.std.proofs.Common.{◌≡◌, ◌∙◌, List, [], ◌++◌, ℕ, ◌<◌, sym}
use Rattle.std.proofs.lemmas.List.Elements.{All-append}
use Rattle.std.specs.Prelude.{Some, Result, Ok, Err, OnOk, IfErr}
use Rattle.wasm_reading.specs.declared.fault.DecodeError.{DecodeError}
use Rattle.wasm_reading_values.specs.Exactness.{AreBytes}
use Rattle.wasm_reading_laws.proofs.Modules.{read_is_spelled}
use Rattle.wasm_decode.specs.declared.state.DecoderState.{DecoderState}
use Rattle.wasm_decode.specs.Decoding.{answer_of, error_of, AnswersInProfile, Resumes}
use Rattle.wasm_decode.proofs.Decoding.{answer_failed}

-- nothing was fed
pub starts_in_profile : (d : DecoderState) → Resumes d [] → AnswersInProfile d
starts_in_profile d starts = λ rest m bytes is. (read_is_spelled rest m bytes (sym (starts rest) ∙ is)).profile

-- behind a piece
pub stays_in_profile : (d d' : DecoderState) (piece : List ℕ) (answer : Result (Unit {0}) DecodeError) → AreBytes piece →
    OnOk answer ((rest : List ℕ) → answer_of d' rest ≡ answer_of d (piece ++ rest)) → IfErr answer (λ e. error_of d' ≡ Some e) → AnswersInProfile d → AnswersInProfile d'
stays_in_profile d d' piece (Ok x) bytes ok kept before = λ rest m more is. before (piece ++ rest) m (All-append (λ b. b < 256) piece rest bytes more) (sym (ok rest) ∙ is)
stays_in_profile d d' piece (Err e) bytes ok kept before = λ rest m more is. let both : Ok m ≡ Err e = sym is ∙ answer_failed d' e kept rest in absurd (cc)
