use Rattle.lowering_rows_laws.proofs.Lists.{lists_follow, own_notes_are_read}
use Rattle.lowering_rows_laws.proofs.lists_are_rows.Goals as goal

pub returns-clause-own : goal.returns-clause-own
returns-clause-own c = own_notes_are_read

pub returns-clause-follow : goal.returns-clause-follow
returns-clause-follow c = lists_follow
