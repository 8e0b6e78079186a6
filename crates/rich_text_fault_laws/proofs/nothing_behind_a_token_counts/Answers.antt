use Rattle.rich_text_fault_laws.proofs.Whole.{nothing_behind_token_counts}
use Rattle.rich_text_fault_laws.proofs.nothing_behind_a_token_counts.Goals as goal

pub returns : goal.returns
returns c = nothing_behind_token_counts
