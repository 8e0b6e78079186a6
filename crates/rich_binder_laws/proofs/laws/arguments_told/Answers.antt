use Rattle.rich_binder_laws.proofs.Told.{arguments_told}
use Rattle.rich_binder_laws.proofs.laws.arguments_told.Goals as goal

pub returns : goal.returns
returns c = arguments_told
