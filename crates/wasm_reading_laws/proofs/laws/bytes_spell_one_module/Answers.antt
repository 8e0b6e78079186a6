use Rattle.wasm_reading_laws.proofs.OneModule.{bytes_spell_one_module, canonical_bytes_spell_only}
use Rattle.wasm_reading_laws.proofs.laws.bytes_spell_one_module.Goals as goal

pub returns-clause-one : goal.returns-clause-one
returns-clause-one c = bytes_spell_one_module

pub returns-clause-canonical : goal.returns-clause-canonical
returns-clause-canonical c = canonical_bytes_spell_only
