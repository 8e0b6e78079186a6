-- The label of this block is told.
use Rattle.std.proofs.Common.{ap}
use Rattle.rw_scopes.specs.Labels.{labels_seen}
use Rattle.rw_scopes.proofs.Found.{target_here}
use Rattle.rw_scopes.proofs.targets.+target_from.Goals as goal

pub returns-in_ok-locals-in-Block : goal.returns-in_ok-locals-in-Block
returns-in_ok-locals-in-Block t c = target_here c.args.by _ _ _ _ _ _ c.in_ok-types-in-Block.ensures c.in_ok-locals-in-Block.ensures c.args.k _ c.if-k-gt0.false (ap labels_seen c.in-Block.is)
