-- The reading of a module is the grammar; this project's own. What is read is defined for all lists of numbers, of which
-- those below 256 are bytes (`AreBytes`).
use Rattle.std.specs.Prelude.{◌≡◌, ◌≢◌, ℕ, ◌≤◌, List, [], ◌∷◌, ◌++◌, length, ◌⊎◌, Ok, Err}
use Rattle.wasm_ast.specs.declared.modules.WModule.{WModule}
use Rattle.wasm_grammar.specs.CanonicalModules.{HasShortContents, module_bytes}
use Rattle.wasm_grammar.specs.Profile.{IsInProfile}
use Rattle.wasm_grammar.specs.GrammarModules.{SpellsModule}
use Rattle.wasm_reading.specs.declared.fault.DecodeError.{DecodeError}
use Rattle.wasm_reading.specs.declared.fault.DecodeFault.TheVariants.{Memory, Truncated}
use Rattle.wasm_reading.specs.ReadModules.{reading_of}
use Rattle.wasm_reading_values.specs.Exactness.{AreBytes}

-- the module that is read from bytes is spelled by them
abbrev pub ReadIsSpelled : Type 0
ReadIsSpelled = (bytes : List ℕ) (m : WModule) → AreBytes bytes → reading_of bytes ≡ Ok m → SpellsModule bytes m

-- the module that is spelled by bytes is read from them
abbrev pub SpelledIsRead : Type 0
SpelledIsRead = (bytes : List ℕ) (m : WModule) → SpellsModule bytes m → reading_of bytes ≡ Ok m

-- the first fault of bytes, and its place: where they are read from the left, production by production, and nothing is
-- read past an end that was declared, reading stops there
abbrev pub HasFirstFault : List ℕ → DecodeError → Type 0
HasFirstFault bytes e = reading_of bytes ≡ Err e

-- bytes spell a module, or have a first fault
abbrev pub ModuleOrFault : Type 0
ModuleOrFault = (bytes : List ℕ) → AreBytes bytes → ((m : WModule) × SpellsModule bytes m) ⊎ ((e : DecodeError) × HasFirstFault bytes e)

-- bytes that spell a module have no first fault
abbrev pub NeverBoth : Type 0
NeverBoth = (bytes : List ℕ) (m : WModule) (e : DecodeError) → SpellsModule bytes m → HasFirstFault bytes e → ⊥

-- bytes have one first fault at most, at one place
abbrev pub OneFirstFault : Type 0
OneFirstFault = (bytes : List ℕ) (e e' : DecodeError) → HasFirstFault bytes e → HasFirstFault bytes e' → e ≡ e'

-- a first fault is no want of memory, so that it is one of the eleven others
abbrev pub NeverOfMemory : Type 0
NeverOfMemory = (bytes : List ℕ) (e : DecodeError) → HasFirstFault bytes e → e.fault ≢ Memory

-- no more bytes stand before a first fault than there are
abbrev pub FaultIsInBytes : Type 0
FaultIsInBytes = (bytes : List ℕ) (e : DecodeError) → HasFirstFault bytes e → e.at ≤ length bytes

-- a first fault for want of a byte stands at the end of the bytes
abbrev pub TruncatedAtTheEnd : Type 0
TruncatedAtTheEnd = (bytes : List ℕ) (e : DecodeError) → HasFirstFault bytes e → e.fault ≡ Truncated → e.at ≡ length bytes

-- bytes that have such a fault do not have it at that place once a byte follows, whichever it is
abbrev pub TruncatedIsUndecided : Type 0
TruncatedIsUndecided = (bytes : List ℕ) (e : DecodeError) → HasFirstFault bytes e → e.fault ≡ Truncated → (b : ℕ) → HasFirstFault (bytes ++ b ∷ []) e → ⊥

-- the canonical bytes of a module are read as that module
abbrev pub CanonicalBytesAreRead : Type 0
CanonicalBytesAreRead = (m : WModule) → IsInProfile m → HasShortContents m → reading_of (module_bytes m) ≡ Ok m

-- bytes spell one module at most
abbrev pub BytesSpellOneModule : Type 0
BytesSpellOneModule = (bytes : List ℕ) (m k : WModule) → SpellsModule bytes m → SpellsModule bytes k → m ≡ k

-- the canonical bytes of a module spell no other one
abbrev pub CanonicalBytesSpellOnly : Type 0
CanonicalBytesSpellOnly = (m k : WModule) → IsInProfile m → HasShortContents m → SpellsModule (module_bytes m) k → k ≡ m
