use Rattle.machine_steps.proofs.Ending.{both_end}
use Rattle.machine_steps.proofs.answered_both_end.Goals as goal

pub returns : goal.returns
returns g c source target prints sim a b r n v over = both_end _ _ _ _ _ _ _ source target prints sim a b r n v over
