use Rattle.lowering_rows_typed.proofs.Lists.{all_rows}
use Rattle.lowering_rows_typed.proofs.Plain.{plain_rows}
use Rattle.lowering_rows_typed.proofs.rows_typed.Goals as goal

pub returns-clause-plain : goal.returns-clause-plain
returns-clause-plain c = plain_rows

pub returns-clause-all : goal.returns-clause-all
returns-clause-all c = all_rows
