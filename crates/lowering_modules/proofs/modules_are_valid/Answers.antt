use Rattle.lowering_modules.proofs.Valid.{module_is_valid}
use Rattle.lowering_modules.proofs.modules_are_valid.Goals as goal

pub returns : goal.returns
returns c = module_is_valid
