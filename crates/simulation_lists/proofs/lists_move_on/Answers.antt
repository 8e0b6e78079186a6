use Rattle.simulation_lists.proofs.Moving.{lists_move_on}
use Rattle.simulation_lists.proofs.lists_move_on.Goals as goal

pub returns : goal.returns
returns c = lists_move_on
