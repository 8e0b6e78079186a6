use Rattle.rich_soundness_tuples.proofs.Tuples.{tuple_rows}
use Rattle.rich_soundness_tuples.proofs.tuple_rows_are_safe.Goals as goal

pub returns : goal.returns
returns c = tuple_rows
