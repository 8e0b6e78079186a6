use Rattle.lowering_laws.proofs.Rows.{ended_function-traps, globals-take, lowered_globals-take}
use Rattle.lowering_laws.proofs.globals_run.Goals as goal

pub returns-clause-source : goal.returns-clause-source
returns-clause-source c = globals-take

pub returns-clause-target : goal.returns-clause-target
returns-clause-target c = lowered_globals-take

pub returns-clause-ended : goal.returns-clause-ended
returns-clause-ended c = ended_function-traps
