-- By which bytes a first fault is decided: by a front of them, or only by their end; this project's own.
use Rattle.std.specs.Prelude.{◌≡◌, ℕ, ◌<◌, ◌≤◌, List, ◌++◌, length, take, ◌⊎◌}
use Rattle.wasm_ast.specs.declared.modules.WModule.{WModule}
use Rattle.wasm_grammar.specs.GrammarModules.{SpellsModule}
use Rattle.wasm_reading.specs.declared.fault.DecodeError.{DecodeError}
use Rattle.wasm_reading.specs.declared.fault.DecodeFault.TheVariants.{Truncated, CountMismatch}
use Rattle.wasm_reading_values.specs.Exactness.{AreBytes}
use Rattle.wasm_reading_laws.specs.ModulesRead.{HasFirstFault}

-- every input that begins with these bytes, that of no further byte among them, has this first fault
abbrev pub IsSettled : List ℕ → DecodeError → Type 0
IsSettled bytes e = (rest : List ℕ) → HasFirstFault (bytes ++ rest) e

-- the bytes end too early: their first fault stands at their end, and is the want of a byte or of the codes of functions
pub record EndsTooEarly (bytes : List ℕ) (e : DecodeError) : Type 0 where
  pub first : HasFirstFault bytes e
  pub place : e.at ≡ length bytes
  pub kind : (e.fault ≡ Truncated) ⊎ (e.fault ≡ CountMismatch)

-- bytes are a module, or end too early
abbrev pub IsUndecided : List ℕ → Type 0
IsUndecided bytes = ((m : WModule) × SpellsModule bytes m) ⊎ ((e : DecodeError) × EndsTooEarly bytes e)

-- the first `n` bytes are the least front that decides the fault: every continuation of them has it, and each shorter front
-- is a module or ends too early
pub record IsDecidedBy (bytes : List ℕ) (e : DecodeError) (n : ℕ) : Type 0 where
  pub within : n ≤ length bytes
  pub settled : IsSettled (take n bytes) e
  pub least : (k : ℕ) → k < n → IsUndecided (take k bytes)

-- a first fault of bytes that do not end too early is that of every continuation
abbrev pub EarlyOrSettled : Type 0
EarlyOrSettled = (bytes : List ℕ) (e : DecodeError) → HasFirstFault bytes e → EndsTooEarly bytes e ⊎ IsSettled bytes e

-- no fault is that of every continuation of bytes that are a module or end too early
abbrev pub UndecidedIsOpen : Type 0
UndecidedIsOpen = (bytes : List ℕ) (e : DecodeError) → IsUndecided bytes → IsSettled bytes e → ⊥

-- a first fault of bytes that do not end too early is decided by a least front of them
abbrev pub DecidedByLeastFront : Type 0
DecidedByLeastFront = (bytes : List ℕ) (e : DecodeError) → AreBytes bytes → HasFirstFault bytes e → EndsTooEarly bytes e ⊎ ((n : ℕ) × IsDecidedBy bytes e n)

-- there is one such front at most
abbrev pub OneLeastFront : Type 0
OneLeastFront = (bytes : List ℕ) (e e' : DecodeError) (n k : ℕ) → IsDecidedBy bytes e n → IsDecidedBy bytes e' k → n ≡ k
