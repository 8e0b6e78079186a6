use Rattle.rich_reduction_laws.proofs.Effects.{effects}
use Rattle.rich_reduction_laws.proofs.Says.{touched_once, printed}
use Rattle.rich_reduction_laws.proofs.steps_have_effects.Goals as goal

pub returns-clause-effects : goal.returns-clause-effects
returns-clause-effects c = effects

pub returns-clause-touched : goal.returns-clause-touched
returns-clause-touched c = touched_once

pub returns-clause-printed : goal.returns-clause-printed
returns-clause-printed c = printed
