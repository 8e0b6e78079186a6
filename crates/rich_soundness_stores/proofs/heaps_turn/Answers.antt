use Rattle.rich_soundness_stores.proofs.Stores.{turning_keeps, growing_keeps}
use Rattle.rich_soundness_stores.proofs.heaps_turn.Goals as goal

pub returns-clause-turning : goal.returns-clause-turning
returns-clause-turning c = turning_keeps

pub returns-clause-growing : goal.returns-clause-growing
returns-clause-growing c = growing_keeps
