use Rattle.wasm_items.proofs.VectorSteps.{next_entry}
use Rattle.wasm_items.proofs.vector.VectorState.entries.Goals as goal

pub returns : goal.returns
returns g c = next_entry _ _ _ _ c.start.ensures c.if-count-eq0.false
