use Rattle.alloc_lin_meets.proofs.Allocates.{alloc_lin_meets}
use Rattle.alloc_lin_meets.proofs.alloc_lin_meets.Goals as goal

pub returns : goal.returns
returns c = alloc_lin_meets
