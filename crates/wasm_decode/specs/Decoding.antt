-- A decoder in the middle, and what it answers where its input goes on by given bytes and then ends; this project's own.
use Rattle.std.specs.Prelude.{◌≡◌, ℕ, ◌∷◌, ◌++◌, List, length, Option, None, Some, Result, Ok, Err}
use Rattle.wasm_ast.specs.declared.modules.WModule.{WModule}
use Rattle.wasm_grammar.specs.GrammarValues.{IsUnsigned}
use Rattle.wasm_grammar.specs.Profile.{IsInProfile}
use Rattle.wasm_reading.specs.declared.fault.DecodeError.{DecodeError}
use Rattle.wasm_reading.specs.ReadModules.{reading_of, without_rest}
use Rattle.wasm_reading_values.specs.Exactness.{AreBytes}
use Rattle.wasm_reading_laws.specs.ModulesRead.{HasFirstFault}
use Rattle.wasm_decode.specs.declared.state.DecoderState.{DecoderState}
use Rattle.wasm_decode.specs.Steps.{rest_of_step, custom_bytes}
use Rattle.wasm_decode.specs.CustomSections.{EndsBetweenSections, EndsInCustomContent}
use Rattle.wasm_decode.specs.CustomSteps.{IsInSize}

-- the error that a decoder answered, if there was one
abbrev pub error_of : DecoderState → Option DecodeError
error_of d = d.failed

-- how many bytes were taken
abbrev pub at_of : DecoderState → ℕ
at_of d = d.at

-- how many bytes are left of the content of a custom section, where one was begun
abbrev pub custom_left_of : DecoderState → ℕ
custom_left_of d = custom_bytes d.step

-- the module so far
abbrev pub built_of : DecoderState → WModule
built_of d = d.built

-- the error that was answered, or else this
abbrev pub error_or : Option DecodeError → Result WModule DecodeError → Result WModule DecodeError
error_or None answer = answer
error_or (Some e) answer = Err e

-- the answer to an input that goes on by these bytes and then ends
unfoldable pub answer_of : DecoderState → List ℕ → Result WModule DecodeError
answer_of d rest = error_or d.failed (without_rest (rest_of_step d.at d.last d.built d.step (record { at = d.at; end = None; rest = rest })))

-- a decoder resumes the input `fed`: it answers what reading gives of that input and what follows
abbrev pub Resumes : DecoderState → List ℕ → Type 0
Resumes d fed = (rest : List ℕ) → answer_of d rest ≡ reading_of (fed ++ rest)

-- each module that is answered, whichever bytes follow, is in the profile
abbrev pub AnswersInProfile : DecoderState → Type 0
AnswersInProfile d = (rest : List ℕ) (m : WModule) → AreBytes rest → answer_of d rest ≡ Ok m → IsInProfile m

-- every input that begins with the bytes `fed`, that of no further byte among them, has this first fault
abbrev pub IsSettled : List ℕ → DecodeError → Type 0
IsSettled fed e = (rest : List ℕ) → HasFirstFault (fed ++ rest) e

-- A decoder stands behind the input `fed`, of which it answered no error: it resumes it, has counted its bytes, and is in
-- the size or the content of a custom section where the input ends there.
pub record StandsBehind (d : DecoderState) (fed : List ℕ) : Type 0 where
  pub resumes : Resumes d fed
  pub whole : error_of d ≡ None
  pub place : at_of d ≡ length fed
  pub in_size : (front begun left : List ℕ) (n : ℕ) → EndsBetweenSections front → fed ≡ front ++ 0x00 ∷ begun → IsUnsigned n (begun ++ left) → IsInSize d.step d.at left n
  pub in_content : (n : ℕ) → EndsInCustomContent fed n → custom_left_of d ≡ n
