use Rattle.lowering_profile.proofs.Profile.{module_is_in_profile}
use Rattle.lowering_profile.proofs.modules_are_in_profile.Goals as goal

pub returns : goal.returns
returns c = module_is_in_profile
