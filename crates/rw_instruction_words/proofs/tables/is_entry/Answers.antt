use Rattle.rw_instruction_words.proofs.LookUps.{told}
use Rattle.rw_instruction_words.proofs.tables.is_entry.Goals as goal

pub returns : goal.returns
returns c = told _ _ _ c.is_word.ensures
