use Rattle.rich_linear_laws.proofs.Bodies.{bodies_exchange}
use Rattle.rich_linear_laws.proofs.Globals.{module_globals}
use Rattle.rich_linear_laws.proofs.Rows.{rows_exchange}
use Rattle.rich_linear_laws.proofs.laws.operands_exchanged.Goals as goal

pub returns-clause-rows : goal.returns-clause-rows
returns-clause-rows c = rows_exchange

pub returns-clause-globals : goal.returns-clause-globals
returns-clause-globals c = module_globals

pub returns-clause-bodies : goal.returns-clause-bodies
returns-clause-bodies c = bodies_exchange
