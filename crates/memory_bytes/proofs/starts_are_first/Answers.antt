use Rattle.memory_bytes.proofs.Starts.{starts_over_first}
use Rattle.memory_bytes.proofs.starts_are_first.Goals as goal

pub returns : goal.returns
returns c = starts_over_first
