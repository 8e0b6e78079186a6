-- What bytes become that are decoded and encoded again; this project's own.
use Rattle.std.specs.Prelude.{◌≡◌, ℕ, List}
use Rattle.wasm_ast.specs.declared.modules.WModule.{WModule}
use Rattle.wasm_grammar.specs.CanonicalModules.{HasShortContents, module_bytes}
use Rattle.wasm_grammar.specs.GrammarModules.{SpellsModule}

-- the bytes spell a module whose sections have contents of fewer than 2^32 bytes; its canonical bytes are these, and
-- they spell it too
pub record IsCanonicalForm (bytes form : List ℕ) : Type 0 where
  pub of : WModule
  pub spelled : SpellsModule bytes of
  pub fits : HasShortContents of
  pub canonical : form ≡ module_bytes of
  pub again : SpellsModule form of
