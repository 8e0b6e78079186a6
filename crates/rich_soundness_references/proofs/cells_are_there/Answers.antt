use Rattle.rich_soundness_references.proofs.There.{there}
use Rattle.rich_soundness_references.proofs.cells_are_there.Goals as goal

pub returns : goal.returns
returns c = there
