use Rattle.rich_rules_rows.proofs.Locations.{rows}
use Rattle.rich_rules_rows.proofs.laws.worked_bodies_with_locations.Goals as goal

pub returns : goal.returns
returns c = rows
