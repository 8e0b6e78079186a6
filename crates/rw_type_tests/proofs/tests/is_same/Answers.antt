use Rattle.rw_type_tests.proofs.Told.{same_told}
use Rattle.rw_type_tests.proofs.tests.is_same.Goals as goal

pub returns : goal.returns
returns c = same_told _ _ _ c.same.ensures
