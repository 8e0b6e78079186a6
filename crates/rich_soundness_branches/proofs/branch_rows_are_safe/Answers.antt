use Rattle.rich_soundness_branches.proofs.Branches.{branch_rows}
use Rattle.rich_soundness_branches.proofs.branch_rows_are_safe.Goals as goal

pub returns : goal.returns
returns c = branch_rows
