use Rattle.lower.proofs.EndedRow.{ended-entry}
use Rattle.lower.proofs.laws.unreachable_is_lowered.Goals as goal

pub returns : goal.returns
returns c = ended-entry
