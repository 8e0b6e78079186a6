use Rattle.allocator_events.proofs.Allocating.{allocations_are_told}
use Rattle.allocator_events.proofs.allocations_are_told.Goals as goal

pub returns : goal.returns
returns c = allocations_are_told
