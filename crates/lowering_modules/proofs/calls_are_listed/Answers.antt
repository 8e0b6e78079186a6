use Rattle.lowering_modules.proofs.Valid.{calls_are_listed}
use Rattle.lowering_modules.proofs.calls_are_listed.Goals as goal

pub returns : goal.returns
returns c = calls_are_listed
