use Rattle.rich_soundness_rows.proofs.Numbers.{number_rows}
use Rattle.rich_soundness_rows.proofs.number_rows_are_safe.Goals as goal

pub returns : goal.returns
returns c = number_rows
