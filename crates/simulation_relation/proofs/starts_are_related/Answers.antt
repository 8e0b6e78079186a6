use Rattle.simulation_relation.proofs.Starting.{starts_related}
use Rattle.simulation_relation.proofs.starts_are_related.Goals as goal

pub returns : goal.returns
returns c = starts_related
