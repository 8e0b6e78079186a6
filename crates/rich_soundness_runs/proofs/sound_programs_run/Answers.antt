use Rattle.rich_soundness_runs.proofs.Runs.{steps_good, runs_safe}
use Rattle.rich_soundness_runs.proofs.sound_programs_run.Goals as goal

pub returns-clause-steps : goal.returns-clause-steps
returns-clause-steps c = steps_good

pub returns-clause-runs : goal.returns-clause-runs
returns-clause-runs c = runs_safe
