use Rattle.rich_rules.proofs.Rows.{rows}
use Rattle.rich_rules.proofs.laws.worked_rules.Goals as goal

pub returns : goal.returns
returns c = rows
