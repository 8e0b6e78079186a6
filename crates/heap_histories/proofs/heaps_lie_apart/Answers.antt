use Rattle.heap_histories.proofs.Extents.{live_lie_within, live_are_apart, grants_lie_within, grants_are_apart}
use Rattle.heap_histories.proofs.heaps_lie_apart.Goals as goal

pub returns-clause-live : goal.returns-clause-live
returns-clause-live c = live_lie_within

pub returns-clause-live_apart : goal.returns-clause-live_apart
returns-clause-live_apart c = live_are_apart

pub returns-clause-grants : goal.returns-clause-grants
returns-clause-grants c = grants_lie_within

pub returns-clause-grants_apart : goal.returns-clause-grants_apart
returns-clause-grants_apart c = grants_are_apart
