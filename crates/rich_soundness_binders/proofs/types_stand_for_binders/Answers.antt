use Rattle.rich_soundness_binders.proofs.Onto as laws
use Rattle.rich_soundness_binders.proofs.types_stand_for_binders.Goals as goal

pub returns-clause-raised : goal.returns-clause-raised
returns-clause-raised c = laws.raised_stays

pub returns-clause-bodies : goal.returns-clause-bodies
returns-clause-bodies c = laws.bodies_stand

pub returns-clause-instances : goal.returns-clause-instances
returns-clause-instances c = laws.instances_stand
