use Rattle.simulation_blocks.proofs.Loops.{loops_step_alike}
use Rattle.simulation_blocks.proofs.loops_step_alike.Goals as goal

pub returns : goal.returns
returns c = loops_step_alike
