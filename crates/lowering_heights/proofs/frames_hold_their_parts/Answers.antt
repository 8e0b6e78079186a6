use Rattle.lowering_heights.proofs.Parts.{frames_hold, lie_apart}
use Rattle.lowering_heights.proofs.frames_hold_their_parts.Goals as goal

pub returns-clause-apart : goal.returns-clause-apart
returns-clause-apart c = lie_apart

pub returns-clause-frames : goal.returns-clause-frames
returns-clause-frames c = frames_hold
