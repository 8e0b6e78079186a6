use Rattle.lowering_laws.proofs.Behaves.{lowered_behaves}
use Rattle.lowering_laws.proofs.lowered_behaves.Goals as goal

pub returns : goal.returns
returns c = lowered_behaves
