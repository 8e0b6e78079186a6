use Rattle.machine_steps.proofs.Alike.{stays}
use Rattle.machine_steps.proofs.ended_stays.Goals as goal

pub returns : goal.returns
returns g c step n a e over = stays step n a e over
