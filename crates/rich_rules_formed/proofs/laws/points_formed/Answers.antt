use Rattle.rich_rules_formed.proofs.Bodies.{bodies_formed}
use Rattle.rich_rules_formed.proofs.Points.{every_point, notes_stand, notes_formed}
use Rattle.rich_rules_formed.proofs.laws.points_formed.Goals as goal

pub returns-clause-points : goal.returns-clause-points
returns-clause-points c = every_point

pub returns-clause-bodies : goal.returns-clause-bodies
returns-clause-bodies c = bodies_formed

pub returns-clause-stand : goal.returns-clause-stand
returns-clause-stand c = notes_stand

pub returns-clause-notes : goal.returns-clause-notes
returns-clause-notes c = notes_formed
