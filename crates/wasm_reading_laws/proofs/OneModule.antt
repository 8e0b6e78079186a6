-- Bytes spell one module at most, since what is read from them is one.
use Rattle.std.proofs.Common.{◌≡◌, Result, Ok}
use Rattle.wasm_ast.specs.declared.modules.WModule.{WModule}
use Rattle.wasm_grammar.specs.CanonicalModules.{module_bytes}
use Rattle.wasm_spelling.proofs.SpelledModules.{canonical_bytes_spell}
use Rattle.wasm_reading.specs.declared.fault.DecodeError.{DecodeError}
use Rattle.wasm_reading.specs.ReadModules.{reading_of}
use Rattle.wasm_reading_laws.specs.ModulesRead.{BytesSpellOneModule, CanonicalBytesSpellOnly}
use Rattle.wasm_reading_laws.proofs.Modules.{spelled_is_read}

one_answer : (r : Result WModule DecodeError) (m k : WModule) → r ≡ Ok m → r ≡ Ok k → m ≡ k
one_answer r m k p q = cc

pub bytes_spell_one_module : BytesSpellOneModule
bytes_spell_one_module bytes m k p q = one_answer (reading_of bytes) m k (spelled_is_read bytes m p) (spelled_is_read bytes k q)

pub canonical_bytes_spell_only : CanonicalBytesSpellOnly
canonical_bytes_spell_only m k h short p = bytes_spell_one_module (module_bytes m) k m p (canonical_bytes_spell m h short)
