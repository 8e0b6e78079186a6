use Rattle.rw_program.proofs.Dropped as dropped
use Rattle.rw_program.proofs.laws.none_dropped.Goals as goal

pub returns : goal.returns
returns c = dropped.none_dropped
