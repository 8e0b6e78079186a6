use Rattle.wasm_typing.proofs.ComputedFaults.{worked-faults}
use Rattle.wasm_typing.proofs.rows.worked_faults.Goals as goal

pub returns : goal.returns
returns c = worked-faults
