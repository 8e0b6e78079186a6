use Rattle.wasm_ast.proofs.Tables.{opcodes_tell_apart, opcodes_are_bytes}
use Rattle.wasm_ast.proofs.laws.opcodes_tell_apart.Goals as goal

pub returns-clause-apart : goal.returns-clause-apart
returns-clause-apart c = opcodes_tell_apart

pub returns-clause-bytes : goal.returns-clause-bytes
returns-clause-bytes c = opcodes_are_bytes
