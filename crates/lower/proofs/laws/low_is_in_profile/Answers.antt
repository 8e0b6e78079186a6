use Rattle.lower.proofs.Fitting.{low_is_in_profile}
use Rattle.lower.proofs.laws.low_is_in_profile.Goals as goal

pub returns : goal.returns
returns c = low_is_in_profile
