use Rattle.rich_rules_rows.proofs.Control.{rows}
use Rattle.rich_rules_rows.proofs.laws.worked_bodies_with_control.Goals as goal

pub returns : goal.returns
returns c = rows
