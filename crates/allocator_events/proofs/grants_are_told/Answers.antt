use Rattle.allocator_events.proofs.Granting.{grants_are_told}
use Rattle.allocator_events.proofs.grants_are_told.Goals as goal

pub returns : goal.returns
returns c = grants_are_told
