use Rattle.simulation_blocks.proofs.Blocks.{blocks_step_alike}
use Rattle.simulation_blocks.proofs.blocks_step_alike.Goals as goal

pub returns : goal.returns
returns c = blocks_step_alike
