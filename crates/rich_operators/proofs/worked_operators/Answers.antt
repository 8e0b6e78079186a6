use Rattle.rich_operators.proofs.Rows.{operators, widths}
use Rattle.rich_operators.proofs.worked_operators.Goals as goal

pub returns-clause-operators : goal.returns-clause-operators
returns-clause-operators c = operators

pub returns-clause-widths : goal.returns-clause-widths
returns-clause-widths c = widths
