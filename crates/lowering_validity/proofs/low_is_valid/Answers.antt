use Rattle.lowering_validity.proofs.Valid.{low_is_valid}
use Rattle.lowering_validity.proofs.low_is_valid.Goals as goal

pub returns : goal.returns
returns c = low_is_valid
