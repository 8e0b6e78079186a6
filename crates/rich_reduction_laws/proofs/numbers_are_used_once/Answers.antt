use Rattle.rich_reduction_laws.proofs.Runs.{stores_grow, made_in_order}
use Rattle.rich_reduction_laws.proofs.numbers_are_used_once.Goals as goal

pub returns-clause-grow : goal.returns-clause-grow
returns-clause-grow c = stores_grow

pub returns-clause-order : goal.returns-clause-order
returns-clause-order c = made_in_order
