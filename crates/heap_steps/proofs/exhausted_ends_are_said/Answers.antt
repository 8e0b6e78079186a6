use Rattle.heap_steps.proofs.Ends.{steps_say_why, runs_say_why}
use Rattle.heap_steps.proofs.exhausted_ends_are_said.Goals as goal

pub returns-clause-step : goal.returns-clause-step
returns-clause-step c = steps_say_why

pub returns-clause-run : goal.returns-clause-run
returns-clause-run c = runs_say_why
