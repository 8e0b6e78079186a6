use Rattle.rich_soundness_points.proofs.Started.{starts_good}
use Rattle.rich_soundness_points.proofs.programs_start_good.Goals as goal

pub returns : goal.returns
returns c = starts_good
