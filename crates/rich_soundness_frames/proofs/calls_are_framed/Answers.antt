use Rattle.rich_soundness_frames.proofs.Framed.{calls_framed}
use Rattle.rich_soundness_frames.proofs.calls_are_framed.Goals as goal

pub returns : goal.returns
returns c = calls_framed
