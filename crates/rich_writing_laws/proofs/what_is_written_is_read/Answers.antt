use Rattle.rich_writing_laws.proofs.Whole.{written_is_canonical, written_spells, written_is_read, written_is_read_again}
use Rattle.rich_writing_laws.proofs.what_is_written_is_read.Goals as goal

pub returns-clause-canonical : goal.returns-clause-canonical
returns-clause-canonical c = written_is_canonical

pub returns-clause-spells : goal.returns-clause-spells
returns-clause-spells c = written_spells

pub returns-clause-read : goal.returns-clause-read
returns-clause-read c = written_is_read

pub returns-clause-again : goal.returns-clause-again
returns-clause-again c = written_is_read_again
