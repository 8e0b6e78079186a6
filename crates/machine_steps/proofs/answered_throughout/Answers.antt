use Rattle.std.proofs.Common.{[]}
use Rattle.machine_steps.proofs.Ending.{kept}
use Rattle.machine_steps.proofs.answered_throughout.Goals as goal

pub returns : goal.returns
returns g c sim a b r n = kept _ _ _ _ _ _ _ sim n [] a [] b r
