use Rattle.wasm_spelling.proofs.PaddedRows.{padded-spells, canonical-spells}
use Rattle.wasm_spelling.proofs.padded_module_is_spelled.Goals as goal

pub returns-clause-padded : goal.returns-clause-padded
returns-clause-padded c = padded-spells

pub returns-clause-canonical : goal.returns-clause-canonical
returns-clause-canonical c = canonical-spells
