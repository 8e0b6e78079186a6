use Rattle.wasm_typing_laws.proofs.WorkedBodies.{worked-violations}
use Rattle.wasm_typing_laws.proofs.laws.worked_violations.Goals as goal

pub returns : goal.returns
returns c = worked-violations
