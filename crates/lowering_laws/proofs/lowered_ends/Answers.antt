use Rattle.lowering_laws.proofs.Behaves.{lowered_ends}
use Rattle.lowering_laws.proofs.lowered_ends.Goals as goal

pub returns : goal.returns
returns c = lowered_ends
