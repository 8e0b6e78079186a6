use Rattle.wasm_grammar.specs.WorkedModules.{six_module}
use Rattle.wasm_spelling.specs.PaddedModule.{padded_module_bytes}
use Rattle.wasm_spelling.specs.FullModule.{full_module, full_module_bytes}
use Rattle.wasm_spelling.proofs.PaddedRows.{padded-spells}
use Rattle.wasm_spelling.proofs.FullRows.{full_module-spelled}
use Rattle.wasm_reading_laws.proofs.Modules.{spelled_is_read}
use Rattle.wasm_reading_laws.proofs.laws.worked_modules_are_read.Goals as goal

pub returns-clause-padded : goal.returns-clause-padded
returns-clause-padded c = spelled_is_read padded_module_bytes six_module padded-spells

pub returns-clause-full : goal.returns-clause-full
returns-clause-full c = spelled_is_read full_module_bytes full_module full_module-spelled
