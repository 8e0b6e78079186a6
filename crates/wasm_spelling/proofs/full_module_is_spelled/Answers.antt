use Rattle.wasm_spelling.proofs.FullRows.{full_module-bytes, full_module-spelled}
use Rattle.wasm_spelling.proofs.full_module_is_spelled.Goals as goal

pub returns-clause-bytes : goal.returns-clause-bytes
returns-clause-bytes c = full_module-bytes

pub returns-clause-spelled : goal.returns-clause-spelled
returns-clause-spelled c = full_module-spelled
