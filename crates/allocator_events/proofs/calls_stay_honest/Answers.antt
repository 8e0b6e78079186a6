use Rattle.allocator_events.proofs.Calls.{calls_are_whole, calls_stay_honest, stops_stay_honest}
use Rattle.allocator_events.proofs.calls_stay_honest.Goals as goal

pub returns-clause-whole : goal.returns-clause-whole
returns-clause-whole c = calls_are_whole

pub returns-clause-given : goal.returns-clause-given
returns-clause-given c = calls_stay_honest

pub returns-clause-ended : goal.returns-clause-ended
returns-clause-ended c = stops_stay_honest
