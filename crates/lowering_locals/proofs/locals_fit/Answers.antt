use Rattle.lowering_locals.proofs.Points.{functions_fit, points_fit}
use Rattle.lowering_locals.proofs.Rows.{rows_fit}
use Rattle.lowering_locals.proofs.locals_fit.Goals as goal

pub returns-clause-rows : goal.returns-clause-rows
returns-clause-rows c = rows_fit

pub returns-clause-points : goal.returns-clause-points
returns-clause-points c = points_fit

pub returns-clause-functions : goal.returns-clause-functions
returns-clause-functions c = functions_fit
