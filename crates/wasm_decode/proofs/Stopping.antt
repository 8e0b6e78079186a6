-- A piece stops at the byte that has a fault.
use Rattle.std.proofs.Common.{◌≡◌, ◌∙◌, ℕ, ◌+◌, ◌<◌, List, ◌∷◌, ◌++◌, length, drop, get_or, ap, sym, ◌⊎◌, inl, inr}
use Rattle.std.proofs.lemmas.List.{drop_more}
use Rattle.std.specs.Prelude.{Result, Ok, Err, IfErr, IsErrAnd}
use Rattle.wasm_ast.specs.declared.modules.WModule.{WModule}
use Rattle.wasm_reading.specs.declared.fault.DecodeError.{DecodeError}
use Rattle.wasm_items.specs.Residuals.{no_memory}
use Rattle.wasm_decode.specs.declared.state.DecoderState.{DecoderState}
use Rattle.wasm_decode.specs.Decoding.{answer_of}

pub stops_at : (d d' : DecoderState) (piece : List ℕ) (i x : ℕ) (e : DecodeError) (answer : Result (Unit {0}) DecodeError) → IsErrAnd answer (λ given. given ≡ e) → i < length piece →
    ((rest : List ℕ) → answer_of d' (drop i piece ++ rest) ≡ answer_of d (piece ++ rest)) → (e ≡ no_memory) ⊎ ((rest : List ℕ) → answer_of d' (get_or piece i x ∷ rest) ≡ Err e) →
    IfErr answer (λ given. (given ≡ no_memory) ⊎ ((rest : List ℕ) → answer_of d (piece ++ rest) ≡ Err given))
stops_at d d' piece i x e (Ok y) is less resumes stops = absurd is
stops_at d d' piece i x e (Err given) is less resumes (inl memory) = inl (is ∙ memory)
stops_at d d' piece i x e (Err given) is less resumes (inr stops) =
    inr (λ rest.
    sym (resumes rest)
    ∙ ap (λ (xs : List ℕ). answer_of d' (xs ++ rest)) (drop_more piece i x less)
    ∙ stops (drop (i + 1) piece ++ rest)
    ∙ ap (λ (f : DecodeError). let r : Result WModule DecodeError = Err f in r) (sym is))
