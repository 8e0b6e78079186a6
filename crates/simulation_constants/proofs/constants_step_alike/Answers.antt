use Rattle.simulation_constants.proofs.Constants.{constants_step_alike}
use Rattle.simulation_constants.proofs.constants_step_alike.Goals as goal

pub returns : goal.returns
returns c = constants_step_alike
