use Rattle.rich_rules_inversions.proofs.Bodies.{rows}
use Rattle.rich_rules_inversions.proofs.laws.body_rows_inverted.Goals as goal

pub returns : goal.returns
returns c = rows
