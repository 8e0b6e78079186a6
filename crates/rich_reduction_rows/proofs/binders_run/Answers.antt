use Rattle.rich_reduction_rows.proofs.BinderRuns.{binding, binding_says}
use Rattle.rich_reduction_rows.proofs.binders_run.Goals as goal

pub returns-clause-binding : goal.returns-clause-binding
returns-clause-binding c = binding

pub returns-clause-binding_says : goal.returns-clause-binding_says
returns-clause-binding_says c = binding_says
