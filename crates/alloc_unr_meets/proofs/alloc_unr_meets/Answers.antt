use Rattle.alloc_unr_meets.proofs.Grants.{alloc_unr_meets}
use Rattle.alloc_unr_meets.proofs.alloc_unr_meets.Goals as goal

pub returns : goal.returns
returns c = alloc_unr_meets
