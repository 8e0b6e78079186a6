use Rattle.machine_steps.proofs.Alike.{alike}
use Rattle.machine_steps.proofs.follows_alike.Goals as goal

pub returns : goal.returns
returns g c source target prints sim a b r = alike _ _ _ _ _ _ _ source target prints sim a b r
