-- A whole input: what is read of it is what the grammar relates to all of it. By the law that reading is the grammar.
use Rattle.std.proofs.Common.{◌≡◌, ◌∙◌, ℕ, List, [], ◌++◌, ap, sym, ◌⊎◌, inl, inr}
use Rattle.std.proofs.lemmas.List.{append-nil}
use Rattle.std.specs.Prelude.{Result, Ok, Err, IfOk, IfErr}
use Rattle.wasm_ast.specs.declared.modules.WModule.{WModule}
use Rattle.wasm_grammar.specs.GrammarModules.{SpellsModule}
use Rattle.wasm_reading.specs.declared.fault.DecodeError.{DecodeError}
use Rattle.wasm_reading.specs.ReadModules.{reading_of}
use Rattle.wasm_reading_values.specs.Exactness.{AreBytes}
use Rattle.wasm_reading_laws.proofs.Modules.{read_is_spelled, spelled_is_read}
use Rattle.wasm_items.specs.Residuals.{no_memory}
use Rattle.wasm_decode.specs.declared.state.DecoderState.{DecoderState}
use Rattle.wasm_decode.specs.Decoding.{answer_of}

-- the answer at the end of the whole input
pub answer_is_reading : (d d' : DecoderState) (bytes : List ℕ) → ((bs : List ℕ) → answer_of d bs ≡ reading_of bs) → ((rest : List ℕ) → answer_of d' rest ≡ answer_of d (bytes ++ rest)) → answer_of d' [] ≡ reading_of bytes
answer_is_reading d d' bytes starts ok = ok [] ∙ ap (answer_of d) (append-nil bytes) ∙ starts bytes

pub answer_spelled : (bytes : List ℕ) (answer r : Result WModule DecodeError) → answer ≡ reading_of bytes → IfOk r (λ m. answer ≡ Ok m) → AreBytes bytes → IfOk r (λ m. SpellsModule bytes m)
answer_spelled bytes answer (Ok m) e h b = read_is_spelled bytes m b (sym e ∙ h)
answer_spelled bytes answer (Err x) e h b = tt

pub no_fault : (bytes : List ℕ) (m : WModule) (e : DecodeError) → SpellsModule bytes m → reading_of bytes ≡ Err e → ⊥
no_fault bytes m e s h = let both : Ok m ≡ Err e = sym (spelled_is_read bytes m s) ∙ h in absurd (cc)

pub answer_complete : (bytes : List ℕ) (answer r : Result WModule DecodeError) → answer ≡ reading_of bytes → IfErr r (λ e. answer ≡ Err e) → (m : WModule) → SpellsModule bytes m → IfErr r (λ e. e ≡ no_memory)
answer_complete bytes answer (Ok x) e h m s = tt
answer_complete bytes answer (Err x) e h m s = absurd (no_fault bytes m x s (sym e ∙ h))

pub fault_of_memory : (bytes : List ℕ) (m : WModule) (e : DecodeError) → SpellsModule bytes m → (e ≡ no_memory) ⊎ (reading_of bytes ≡ Err e) → e ≡ no_memory
fault_of_memory bytes m e s (inl memory) = memory
fault_of_memory bytes m e s (inr h) = absurd (no_fault bytes m e s h)
