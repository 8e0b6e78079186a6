use Rattle.heap_blocks.proofs.Readings.{readable_is_read}
use Rattle.heap_blocks.proofs.Walks.{headers_lead}
use Rattle.heap_blocks.proofs.readable_lists_are_read.Goals as goal

pub returns-clause-read : goal.returns-clause-read
returns-clause-read c = readable_is_read

pub returns-clause-walk : goal.returns-clause-walk
returns-clause-walk c = headers_lead
