use Rattle.machine_steps.proofs.Counts.{all_made, no_more_made}
use Rattle.machine_steps.proofs.steps_are_counted.Goals as goal

pub returns-clause-going : goal.returns-clause-going
returns-clause-going g c step n a h = all_made step n a h

pub returns-clause-most : goal.returns-clause-most
returns-clause-most g c step n a = no_more_made step n a
