use Rattle.rich_rules_rows.proofs.Fields.{rows}
use Rattle.rich_rules_rows.proofs.laws.worked_fields.Goals as goal

pub returns : goal.returns
returns c = rows
