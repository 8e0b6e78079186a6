use Rattle.lowering_table.proofs.TypeLaws.{functions-have_their_types, listed_types-are_used, types-are_in_order, types-are_listed_once, used_types-are_listed}
use Rattle.lowering_table.proofs.types_are_indexed.Goals as goal

pub returns-clause-listed : goal.returns-clause-listed
returns-clause-listed c = used_types-are_listed

pub returns-clause-once : goal.returns-clause-once
returns-clause-once c = types-are_listed_once

pub returns-clause-used : goal.returns-clause-used
returns-clause-used c = listed_types-are_used

pub returns-clause-order : goal.returns-clause-order
returns-clause-order c = types-are_in_order

pub returns-clause-functions : goal.returns-clause-functions
returns-clause-functions c = functions-have_their_types
