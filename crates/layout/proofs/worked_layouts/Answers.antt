use Rattle.layout.proofs.Worked.{worked}
use Rattle.layout.proofs.worked_layouts.Goals as goal

pub returns : goal.returns
returns c = worked
