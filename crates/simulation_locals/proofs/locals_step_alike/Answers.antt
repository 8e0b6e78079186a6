use Rattle.simulation_locals.proofs.Locals.{locals_step_alike}
use Rattle.simulation_locals.proofs.locals_step_alike.Goals as goal

pub returns : goal.returns
returns c = locals_step_alike
