use Rattle.rich_reduction_laws.proofs.Runs.{four_traps, room_enough, over_stays}
use Rattle.rich_reduction_laws.proofs.runs_end_in_four_traps.Goals as goal

pub returns-clause-traps : goal.returns-clause-traps
returns-clause-traps c = four_traps

pub returns-clause-room : goal.returns-clause-room
returns-clause-room c = room_enough

pub returns-clause-stays : goal.returns-clause-stays
returns-clause-stays c = over_stays
