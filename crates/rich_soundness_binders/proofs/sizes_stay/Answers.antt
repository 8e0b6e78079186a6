use Rattle.rich_soundness_binders.proofs.Sizes as laws
use Rattle.rich_soundness_binders.proofs.sizes_stay.Goals as goal

pub returns : goal.returns
returns c = laws.sizes_stay
