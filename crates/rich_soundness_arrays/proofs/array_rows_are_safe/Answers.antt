use Rattle.rich_soundness_arrays.proofs.Arrays.{array_rows}
use Rattle.rich_soundness_arrays.proofs.array_rows_are_safe.Goals as goal

pub returns : goal.returns
returns c = array_rows
