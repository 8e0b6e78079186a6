use Rattle.heap_events.proofs.Rows.{worked_blocks, worked_calls, worked_run, worked_safety}
use Rattle.heap_events.proofs.worked_events.Goals as goal

pub returns-clause-blocks : goal.returns-clause-blocks
returns-clause-blocks c = worked_blocks

pub returns-clause-calls : goal.returns-clause-calls
returns-clause-calls c = worked_calls

pub returns-clause-run : goal.returns-clause-run
returns-clause-run c = worked_run

pub returns-clause-safety : goal.returns-clause-safety
returns-clause-safety c = worked_safety
