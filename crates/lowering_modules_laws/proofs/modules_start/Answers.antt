use Rattle.lowering_modules_laws.proofs.Starting.{modules_start}
use Rattle.lowering_modules_laws.proofs.modules_start.Goals as goal

pub returns : goal.returns
returns c = modules_start
