use Rattle.lowering_validity.proofs.Starting.{low_starts}
use Rattle.lowering_validity.proofs.low_starts.Goals as goal

pub returns : goal.returns
returns c = low_starts
