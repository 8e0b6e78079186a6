use Rattle.free_lin_meets.proofs.Frees.{free_lin_meets}
use Rattle.free_lin_meets.proofs.free_lin_meets.Goals as goal

pub returns : goal.returns
returns c = free_lin_meets
