use Rattle.rich_types_laws.proofs.Arguments.{composed}
use Rattle.rich_types_laws.proofs.Unchanged.{raised_by_nothing}
use Rattle.rich_types_laws.proofs.Answered.{well_formed_instance}
use Rattle.rich_types_laws.proofs.laws.instances.Goals as goal

pub returns-clause-composed : goal.returns-clause-composed
returns-clause-composed c = composed

pub returns-clause-unchanged : goal.returns-clause-unchanged
returns-clause-unchanged c = raised_by_nothing

pub returns-clause-well_formed : goal.returns-clause-well_formed
returns-clause-well_formed c = well_formed_instance
