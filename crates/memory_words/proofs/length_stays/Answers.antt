use Rattle.memory_words.proofs.Bytes.{length-zeros, length-put}
use Rattle.memory_words.proofs.Words.{length-write}
use Rattle.memory_words.proofs.length_stays.Goals as goal

pub returns-clause-zeros : goal.returns-clause-zeros
returns-clause-zeros c = length-zeros

pub returns-clause-put : goal.returns-clause-put
returns-clause-put c = length-put

pub returns-clause-written : goal.returns-clause-written
returns-clause-written c = length-write
