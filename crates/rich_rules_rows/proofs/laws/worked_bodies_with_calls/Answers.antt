use Rattle.rich_rules_rows.proofs.Calls.{rows}
use Rattle.rich_rules_rows.proofs.laws.worked_bodies_with_calls.Goals as goal

pub returns : goal.returns
returns c = rows
