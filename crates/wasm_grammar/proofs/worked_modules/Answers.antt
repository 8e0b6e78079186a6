use Rattle.wasm_grammar.proofs.WorkedRows.{empty_module-bytes, six_module-bytes}
use Rattle.wasm_grammar.proofs.worked_modules.Goals as goal

pub returns-clause-empty : goal.returns-clause-empty
returns-clause-empty c = empty_module-bytes

pub returns-clause-six : goal.returns-clause-six
returns-clause-six c = six_module-bytes
