use Rattle.wasm_spelling.proofs.SpelledModules.{canonical_bytes_spell}
use Rattle.wasm_spelling.proofs.canonical_bytes_spell.Goals as goal

pub returns : goal.returns
returns c = canonical_bytes_spell
