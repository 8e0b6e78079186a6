use Rattle.rich_rights_laws.proofs.Sums.{values, stores}
use Rattle.rich_rights_laws.proofs.counts_add_up.Goals as goal

pub returns-clause-values : goal.returns-clause-values
returns-clause-values c = values

pub returns-clause-stores : goal.returns-clause-stores
returns-clause-stores c = stores
