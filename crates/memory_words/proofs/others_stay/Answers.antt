use Rattle.memory_words.proofs.Words.{read-other, word-other}
use Rattle.memory_words.proofs.others_stay.Goals as goal

pub returns-clause-number : goal.returns-clause-number
returns-clause-number c = read-other

pub returns-clause-word : goal.returns-clause-word
returns-clause-word c = word-other
