use Rattle.rich_binder_laws.proofs.Raised.{raised_kept}
use Rattle.rich_binder_laws.proofs.laws.raised_types.Goals as goal

pub returns : goal.returns
returns c = raised_kept
