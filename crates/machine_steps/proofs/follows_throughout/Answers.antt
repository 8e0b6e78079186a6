use Rattle.std.proofs.Common.{[]}
use Rattle.machine_steps.proofs.Follow.{follows}
use Rattle.machine_steps.proofs.follows_throughout.Goals as goal

pub returns : goal.returns
returns g c sim a b r = follows _ _ _ _ _ _ _ sim a b [] [] r
