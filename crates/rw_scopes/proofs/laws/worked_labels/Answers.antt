use Rattle.rw_scopes.proofs.Rows.{rows}
use Rattle.rw_scopes.proofs.laws.worked_labels.Goals as goal

pub returns : goal.returns
returns c = rows
