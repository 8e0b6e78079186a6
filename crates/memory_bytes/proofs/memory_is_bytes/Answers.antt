use Rattle.memory_bytes.proofs.Steps.{step_keeps, steps_keep}
use Rattle.memory_bytes.proofs.Starts.{start_has_bytes, modules_keep_bytes}
use Rattle.memory_bytes.proofs.memory_is_bytes.Goals as goal

pub returns-clause-step : goal.returns-clause-step
returns-clause-step c = step_keeps

pub returns-clause-steps : goal.returns-clause-steps
returns-clause-steps c = steps_keep

pub returns-clause-start : goal.returns-clause-start
returns-clause-start c = start_has_bytes

pub returns-clause-run : goal.returns-clause-run
returns-clause-run c = modules_keep_bytes
