use Rattle.wasm_grammar.proofs.WorkedInstructions.{worked_plain_instructions, worked_blocks}
use Rattle.wasm_grammar.proofs.worked_instructions.Goals as goal

pub returns-clause-plain : goal.returns-clause-plain
returns-clause-plain c = worked_plain_instructions

pub returns-clause-blocks : goal.returns-clause-blocks
returns-clause-blocks c = worked_blocks
