use Rattle.rich_soundness_ends.proofs.Ends.{ends}
use Rattle.rich_soundness_ends.proofs.ends_are_safe.Goals as goal

pub returns : goal.returns
returns c = ends
