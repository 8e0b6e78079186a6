use Rattle.lower.proofs.SevenRow.{seven_binary-bytes, seven_binary-spells}
use Rattle.lower.proofs.laws.seven_is_lowered.Goals as goal

pub returns-clause-bytes : goal.returns-clause-bytes
returns-clause-bytes c = seven_binary-bytes

pub returns-clause-spelled : goal.returns-clause-spelled
returns-clause-spelled c = seven_binary-spells
