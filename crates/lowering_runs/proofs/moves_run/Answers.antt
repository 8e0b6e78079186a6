use Rattle.lowering_runs.proofs.Runs.{fetches_run, gets_run, gives_run, moves_run}
use Rattle.lowering_runs.proofs.moves_run.Goals as goal

pub returns-clause-moves : goal.returns-clause-moves
returns-clause-moves c = moves_run

pub returns-clause-gets : goal.returns-clause-gets
returns-clause-gets c = gets_run

pub returns-clause-gives : goal.returns-clause-gives
returns-clause-gives c = gives_run

pub returns-clause-fetches : goal.returns-clause-fetches
returns-clause-fetches c = fetches_run
