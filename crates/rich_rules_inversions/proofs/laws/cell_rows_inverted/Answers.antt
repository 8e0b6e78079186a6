use Rattle.rich_rules_inversions.proofs.Cells.{rows}
use Rattle.rich_rules_inversions.proofs.laws.cell_rows_inverted.Goals as goal

pub returns : goal.returns
returns c = rows
