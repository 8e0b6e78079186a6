use Rattle.wasm_grammar.specs.CanonicalModules.{module_bytes}
use Rattle.wasm_spelling.proofs.SpelledModules.{canonical_bytes_spell}
use Rattle.wasm_reading_laws.proofs.Modules.{spelled_is_read}
use Rattle.wasm_reading_laws.proofs.laws.canonical_bytes_are_read.Goals as goal

pub returns : goal.returns
returns c = λ m h k. spelled_is_read (module_bytes m) m (canonical_bytes_spell m h k)
