use Rattle.rich_soundness_values.proofs.Framed.{types_framed}
use Rattle.rich_soundness_values.proofs.types_are_framed.Goals as goal

pub returns : goal.returns
returns c = types_framed
