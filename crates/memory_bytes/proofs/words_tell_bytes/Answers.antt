use Rattle.memory_bytes.proofs.Words.{words_tell_bytes}
use Rattle.memory_bytes.proofs.words_tell_bytes.Goals as goal

pub returns : goal.returns
returns c = words_tell_bytes
