use Rattle.lowering_rows.proofs.Worked.{worked}
use Rattle.lowering_rows.proofs.worked_rows.Goals as goal

pub returns : goal.returns
returns c = worked
