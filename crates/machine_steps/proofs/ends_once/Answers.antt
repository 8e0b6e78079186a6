use Rattle.machine_steps.proofs.Ending.{once}
use Rattle.machine_steps.proofs.ends_once.Goals as goal

pub returns : goal.returns
returns g c step n m a e over = once step n m a e over
