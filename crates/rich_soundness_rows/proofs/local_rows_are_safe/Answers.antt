use Rattle.rich_soundness_rows.proofs.Locals.{local_rows}
use Rattle.rich_soundness_rows.proofs.local_rows_are_safe.Goals as goal

pub returns : goal.returns
returns c = local_rows
