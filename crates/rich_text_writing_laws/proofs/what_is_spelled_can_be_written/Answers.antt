use Rattle.rich_text_writing_laws.proofs.Writing.{read_again, spelled_is_writable}
use Rattle.rich_text_writing_laws.proofs.what_is_spelled_can_be_written.Goals as goal

pub returns-clause-writable : goal.returns-clause-writable
returns-clause-writable c = spelled_is_writable

pub returns-clause-again : goal.returns-clause-again
returns-clause-again c = read_again
