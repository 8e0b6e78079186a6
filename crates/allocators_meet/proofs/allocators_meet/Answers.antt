use Rattle.free_lin_meets.proofs.Frees.{free_lin_meets}
use Rattle.alloc_lin_meets.proofs.Allocates.{alloc_lin_meets}
use Rattle.alloc_unr_meets.proofs.Grants.{alloc_unr_meets}
use Rattle.allocators_meet.proofs.allocators_meet.Goals as goal

pub returns : goal.returns
returns c = record { allocates = alloc_lin_meets; frees = free_lin_meets; grants = alloc_unr_meets }
