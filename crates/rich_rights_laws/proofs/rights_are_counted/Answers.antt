use Rattle.rich_rights_laws.proofs.Counted.{values, swapped, split}
use Rattle.rich_rights_laws.proofs.rights_are_counted.Goals as goal

pub returns-clause-values : goal.returns-clause-values
returns-clause-values c = values

pub returns-clause-swapped : goal.returns-clause-swapped
returns-clause-swapped c = swapped

pub returns-clause-split : goal.returns-clause-split
returns-clause-split c = split
