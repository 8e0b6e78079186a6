use Rattle.rich_soundness.proofs.Rows.{rows_are_safe}
use Rattle.rich_soundness.proofs.Runs as laws
use Rattle.rich_soundness.proofs.sound_programs_are_safe.Goals as goal

pub returns-clause-rows : goal.returns-clause-rows
returns-clause-rows c = rows_are_safe

pub returns-clause-steps : goal.returns-clause-steps
returns-clause-steps c = laws.steps_are_safe

pub returns-clause-sound : goal.returns-clause-sound
returns-clause-sound c = laws.sound_runs_are_safe

pub returns-clause-linked : goal.returns-clause-linked
returns-clause-linked c = laws.linked_runs_are_safe
