use Rattle.lowering_rows_laws.proofs.Today.{functions_alike, starts_alike}
use Rattle.lowering_rows_laws.proofs.lowers_alike.Goals as goal

pub returns-clause-functions : goal.returns-clause-functions
returns-clause-functions c = functions_alike

pub returns-clause-starts : goal.returns-clause-starts
returns-clause-starts c = starts_alike
