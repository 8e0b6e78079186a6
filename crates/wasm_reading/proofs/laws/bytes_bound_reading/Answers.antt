use Rattle.wasm_reading.proofs.Fuel.{instructions_need_no_more, sections_need_no_more}
use Rattle.wasm_reading.proofs.laws.bytes_bound_reading.Goals as goal

pub returns-clause-instructions : goal.returns-clause-instructions
returns-clause-instructions c = instructions_need_no_more

pub returns-clause-sections : goal.returns-clause-sections
returns-clause-sections c = sections_need_no_more
