use Rattle.lowering_heights.proofs.Bodies.{functions_hold, initialisers_hold}
use Rattle.lowering_heights.proofs.frames_hold_their_operands.Goals as goal

pub returns-clause-functions : goal.returns-clause-functions
returns-clause-functions c = functions_hold

pub returns-clause-initialisers : goal.returns-clause-initialisers
returns-clause-initialisers c = initialisers_hold
