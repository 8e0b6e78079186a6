use Rattle.memory_words.proofs.Bytes.{put-same}
use Rattle.memory_words.proofs.Words.{read-write, word-write}
use Rattle.memory_words.proofs.written_is_read.Goals as goal

pub returns-clause-put : goal.returns-clause-put
returns-clause-put c = put-same

pub returns-clause-number : goal.returns-clause-number
returns-clause-number c = read-write

pub returns-clause-word : goal.returns-clause-word
returns-clause-word c = word-write
