use Rattle.heap_blocks.proofs.Rows.{two_in_turn, last_in_first_out, splits, broken}
use Rattle.heap_blocks.proofs.worked_free_lists.Goals as goal

pub returns-clause-in_turn : goal.returns-clause-in_turn
returns-clause-in_turn c = two_in_turn

pub returns-clause-last_first : goal.returns-clause-last_first
returns-clause-last_first c = last_in_first_out

pub returns-clause-splits : goal.returns-clause-splits
returns-clause-splits c = splits

pub returns-clause-broken : goal.returns-clause-broken
returns-clause-broken c = broken
