use Rattle.wasm_num.proofs.Counts.{ones-at}
use Rattle.wasm_num.proofs.digits.ones.Goals as goal

pub returns-in-W32-clause-value : goal.returns-in-W32-clause-value
returns-in-W32-clause-value c = ones-at _ _ _ c.requires c.from.ensures

pub returns-in-W64-clause-value : goal.returns-in-W64-clause-value
returns-in-W64-clause-value c = ones-at _ _ _ c.requires c.from-in-W64.ensures
