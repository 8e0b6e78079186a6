use Rattle.rich_soundness_rows.proofs.Rights.{right_rows}
use Rattle.rich_soundness_rows.proofs.right_rows_are_safe.Goals as goal

pub returns : goal.returns
returns c = right_rows
