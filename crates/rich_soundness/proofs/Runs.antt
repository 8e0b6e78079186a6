-- Runs of sound programs, and of linked ones.
use Rattle.rich_linking_sound.proofs.Sound.{linked_sound}
use Rattle.rich_soundness_runs.proofs.Runs.{steps_good, runs_safe}
use Rattle.rich_soundness.specs.Laws.{StepsAreSafe, SoundRunsAreSafe, LinkedRunsAreSafe}
use Rattle.rich_soundness.proofs.Rows.{rows_are_safe}

pub steps_are_safe : StepsAreSafe
steps_are_safe = steps_good rows_are_safe

pub sound_runs_are_safe : SoundRunsAreSafe
sound_runs_are_safe = runs_safe rows_are_safe

pub linked_runs_are_safe : LinkedRunsAreSafe
linked_runs_are_safe files p typed fit e = sound_runs_are_safe p (linked_sound files p typed fit e)
