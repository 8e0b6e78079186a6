use Rattle.rich_types.proofs.Rows.{sizes, forms, instances}
use Rattle.rich_types.proofs.laws.worked_types.Goals as goal

pub returns-clause-sizes : goal.returns-clause-sizes
returns-clause-sizes c = sizes

pub returns-clause-forms : goal.returns-clause-forms
returns-clause-forms c = forms

pub returns-clause-instances : goal.returns-clause-instances
returns-clause-instances c = instances
