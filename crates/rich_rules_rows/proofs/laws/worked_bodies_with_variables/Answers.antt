use Rattle.rich_rules_rows.proofs.Variables.{rows}
use Rattle.rich_rules_rows.proofs.laws.worked_bodies_with_variables.Goals as goal

pub returns : goal.returns
returns c = rows
