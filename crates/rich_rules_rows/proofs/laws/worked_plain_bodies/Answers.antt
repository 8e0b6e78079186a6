use Rattle.rich_rules_rows.proofs.Plain.{rows}
use Rattle.rich_rules_rows.proofs.laws.worked_plain_bodies.Goals as goal

pub returns : goal.returns
returns c = rows
