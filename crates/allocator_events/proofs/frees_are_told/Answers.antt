use Rattle.allocator_events.proofs.Freeing.{frees_are_told}
use Rattle.allocator_events.proofs.frees_are_told.Goals as goal

pub returns : goal.returns
returns c = frees_are_told
