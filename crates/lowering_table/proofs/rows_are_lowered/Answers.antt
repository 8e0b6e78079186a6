use Rattle.lowering_table.proofs.Worked.{ended_function, ended_initialiser, indirect_types, nested_order, swap-height, two_initialisers}
use Rattle.lowering_table.proofs.rows_are_lowered.Goals as goal

pub returns-clause-ended : goal.returns-clause-ended
returns-clause-ended c = ended_function

pub returns-clause-initialisers : goal.returns-clause-initialisers
returns-clause-initialisers c = two_initialisers

pub returns-clause-ended_initialiser : goal.returns-clause-ended_initialiser
returns-clause-ended_initialiser c = ended_initialiser

pub returns-clause-swap : goal.returns-clause-swap
returns-clause-swap c = swap-height

pub returns-clause-order : goal.returns-clause-order
returns-clause-order c = nested_order

pub returns-clause-types : goal.returns-clause-types
returns-clause-types c = indirect_types
