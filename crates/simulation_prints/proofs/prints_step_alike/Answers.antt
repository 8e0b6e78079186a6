use Rattle.simulation_prints.proofs.Prints.{prints_step_alike}
use Rattle.simulation_prints.proofs.prints_step_alike.Goals as goal

pub returns : goal.returns
returns c = prints_step_alike
