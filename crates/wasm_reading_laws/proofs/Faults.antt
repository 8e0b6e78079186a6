-- Bytes spell a module or have a first fault, by what reading them gives; and where that fault can be.
use Rattle.std.proofs.Common.{◌≡◌, ℕ, List, [], ◌∷◌, ◌++◌, length, length-append, refl, subst, arith, inl, inr, None, Result, Ok, Err}
use Rattle.std.specs.Prelude.{◌⊎◌}
use Rattle.wasm_ast.specs.declared.modules.WModule.{WModule}
use Rattle.wasm_grammar.specs.GrammarModules.{SpellsModule}
use Rattle.wasm_reading.specs.declared.fault.DecodeError.{DecodeError}
use Rattle.wasm_reading.specs.Readers.{Input}
use Rattle.wasm_reading.specs.ReadModules.{module_at, reading_of, without_rest}
use Rattle.wasm_reading_laws.specs.ModulesRead.{HasFirstFault, ModuleOrFault, NeverBoth, OneFirstFault, NeverOfMemory, FaultIsInBytes, TruncatedAtTheEnd, TruncatedIsUndecided}
use Rattle.wasm_reading_laws.proofs.Modules.{read_is_spelled, spelled_is_read}
use Rattle.wasm_reading_laws.proofs.FaultBounds.{IsPlaced, IsInBounds}
use Rattle.wasm_reading_laws.proofs.FaultsOfSections.{bounds_module}

read_or_fault : (r : Result WModule DecodeError) → ((m : WModule) × (r ≡ Ok m)) ⊎ ((e : DecodeError) × (r ≡ Err e))
read_or_fault (Ok m) = inl (m, refl)
read_or_fault (Err e) = inr (e, refl)

pub module_or_fault : ModuleOrFault
module_or_fault bytes h =
    elim (read_or_fault (reading_of bytes)) as (λ _. ((m : WModule) × SpellsModule bytes m) ⊎ ((e : DecodeError) × HasFirstFault bytes e)) [
      | inl p ↦ inl (p.0, read_is_spelled bytes p.0 h p.1)
      | inr p ↦ inr p
    ]

not_both : (r : Result WModule DecodeError) (m : WModule) (e : DecodeError) → r ≡ Ok m → r ≡ Err e → ⊥
not_both r m e p q = cc

pub never_both : NeverBoth
never_both bytes m e s f = not_both (reading_of bytes) m e (spelled_is_read bytes m s) f

one_fault : (r : Result WModule DecodeError) (e e' : DecodeError) → r ≡ Err e → r ≡ Err e' → e ≡ e'
one_fault r e e' p q = cc

pub one_first_fault : OneFirstFault
one_first_fault bytes e e' f g = one_fault (reading_of bytes) e e' f g

fault_in : (total : ℕ) (r : Result (WModule × Input) DecodeError) (e : DecodeError) → IsInBounds total r → without_rest r ≡ Err e → IsPlaced total e
fault_in total (Ok done) e h f = absurd (cc)
fault_in total (Err fault) e h f =
    let same : fault ≡ e = cc in
    subst (IsPlaced total) same h

first_fault_in : (bytes : List ℕ) (e : DecodeError) → HasFirstFault bytes e → IsPlaced (length bytes) e
first_fault_in bytes e f =
    let input : Input = record { at = 0; end = None; rest = bytes } in
    fault_in (length bytes) (module_at input) e ((bounds_module 0 (length bytes)).holds input (omega arith)) f

pub never_of_memory : NeverOfMemory
never_of_memory bytes e f = (first_fault_in bytes e f).0

pub fault_is_in_bytes : FaultIsInBytes
fault_is_in_bytes bytes e f = (first_fault_in bytes e f).1

pub truncated_at_the_end : TruncatedAtTheEnd
truncated_at_the_end bytes e f t = (first_fault_in bytes e f).2 t

pub truncated_is_undecided : TruncatedIsUndecided
truncated_is_undecided bytes e f t b more =
    let here = truncated_at_the_end bytes e f t in
    let later = truncated_at_the_end (bytes ++ b ∷ []) e more t in
    omega (arith, here, later, length-append bytes (b ∷ []))
