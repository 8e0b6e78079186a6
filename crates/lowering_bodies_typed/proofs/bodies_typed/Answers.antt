use Rattle.lowering_bodies_typed.proofs.Bodies.{functions_typed, starts_typed}
use Rattle.lowering_bodies_typed.proofs.Lists.{lists_typed}
use Rattle.lowering_bodies_typed.proofs.bodies_typed.Goals as goal

pub returns-clause-lists : goal.returns-clause-lists
returns-clause-lists c = lists_typed

pub returns-clause-functions : goal.returns-clause-functions
returns-clause-functions c = functions_typed

pub returns-clause-starts : goal.returns-clause-starts
returns-clause-starts c = starts_typed
