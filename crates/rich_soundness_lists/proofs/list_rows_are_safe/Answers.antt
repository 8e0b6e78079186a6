use Rattle.rich_soundness_lists.proofs.Lists.{list_rows}
use Rattle.rich_soundness_lists.proofs.list_rows_are_safe.Goals as goal

pub returns : goal.returns
returns c = list_rows
