use Rattle.wasm_spelling.proofs.ShortestModules.{canonical_bytes_are_shortest, spelled_contents_are_short, canonical_bytes_spell_again}
use Rattle.wasm_spelling.proofs.canonical_bytes_are_shortest.Goals as goal

pub returns-clause-shortest : goal.returns-clause-shortest
returns-clause-shortest c = canonical_bytes_are_shortest

pub returns-clause-short : goal.returns-clause-short
returns-clause-short c = spelled_contents_are_short

pub returns-clause-spell : goal.returns-clause-spell
returns-clause-spell c = canonical_bytes_spell_again
