-- Laws of the relation between modules and the bytes that spell them; this project's own words.
use Rattle.std.specs.Prelude.{◌≡◌, ℕ, ◌<◌, List, length, ◌⊎◌}
use Rattle.wasm_ast.specs.declared.modules.WModule.{WModule}
use Rattle.wasm_grammar.specs.CanonicalModules.{HasShortContents, module_bytes}
use Rattle.wasm_grammar.specs.Profile.{IsInProfile}
use Rattle.wasm_grammar.specs.GrammarModules.{SpellsModule}

-- the canonical bytes of a module spell it
abbrev pub CanonicalBytesSpell : Type 0
CanonicalBytesSpell = (m : WModule) → IsInProfile m → HasShortContents m → SpellsModule (module_bytes m) m

-- the canonical bytes of a module are its shortest spelling: bytes that spell it are these, or there are more of them
abbrev pub CanonicalBytesAreShortest : Type 0
CanonicalBytesAreShortest =
    (m : WModule) (bytes : List ℕ) → SpellsModule bytes m → (bytes ≡ module_bytes m) ⊎ (length (module_bytes m) < length bytes)

-- the sections of a module that bytes spell have contents of fewer than 2 ^ 32 bytes
abbrev pub SpelledContentsAreShort : Type 0
SpelledContentsAreShort = (m : WModule) (bytes : List ℕ) → SpellsModule bytes m → HasShortContents m

-- the canonical bytes of a module that bytes spell are a spelling of it
abbrev pub CanonicalBytesSpellAgain : Type 0
CanonicalBytesSpellAgain = (m : WModule) (bytes : List ℕ) → SpellsModule bytes m → SpellsModule (module_bytes m) m
