use Rattle.simulation_erased.proofs.Erased.{erased_steps_alike}
use Rattle.simulation_erased.proofs.erased_rows_step_alike.Goals as goal

pub returns : goal.returns
returns c = erased_steps_alike
