use Rattle.lowering_heights.proofs.Counted.{note_tells}
use Rattle.lowering_heights.proofs.Within.{points_within}
use Rattle.lowering_heights.proofs.points_are_within.Goals as goal

pub returns-clause-points : goal.returns-clause-points
returns-clause-points c = points_within

pub returns-clause-notes : goal.returns-clause-notes
returns-clause-notes c = note_tells
