use Rattle.rich_rules_rows.proofs.Cells.{rows}
use Rattle.rich_rules_rows.proofs.laws.worked_bodies_with_cells.Goals as goal

pub returns : goal.returns
returns c = rows
