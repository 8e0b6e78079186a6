use Rattle.rw_branch_rows.proofs.Rows.{rows}
use Rattle.rw_branch_rows.proofs.laws.worked_branches.Goals as goal

pub returns : goal.returns
returns c = rows
