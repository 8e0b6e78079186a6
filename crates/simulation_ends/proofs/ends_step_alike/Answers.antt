use Rattle.simulation_ends.proofs.Ends.{ends_step_alike}
use Rattle.simulation_ends.proofs.ends_step_alike.Goals as goal

pub returns : goal.returns
returns c = ends_step_alike
