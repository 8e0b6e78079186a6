use Rattle.lowering_modules_laws.proofs.Alike.{modules_alike}
use Rattle.lowering_modules_laws.proofs.modules_alike.Goals as goal

pub returns : goal.returns
returns c = modules_alike
