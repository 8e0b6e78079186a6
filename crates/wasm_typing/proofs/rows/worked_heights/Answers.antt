use Rattle.wasm_typing.proofs.HeightLayers.{worked-heights}
use Rattle.wasm_typing.proofs.rows.worked_heights.Goals as goal

pub returns : goal.returns
returns c = worked-heights
