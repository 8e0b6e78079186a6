use Rattle.rich_text_fault_laws.proofs.Encodings.{encoding_is_first, four_bytes_tell, nothing_behind_bytes_counts}
use Rattle.rich_text_fault_laws.proofs.nothing_behind_ill_formed_bytes_counts.Goals as goal

pub returns-clause-first : goal.returns-clause-first
returns-clause-first c = encoding_is_first

pub returns-clause-alone : goal.returns-clause-alone
returns-clause-alone c = nothing_behind_bytes_counts

pub returns-clause-four : goal.returns-clause-four
returns-clause-four c = four_bytes_tell
