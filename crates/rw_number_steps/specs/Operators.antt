-- The operator that one in code names. This project's own.
use Rattle.rich_operators.specs.Operators as rich
use Rattle.rw_number_steps.specs.declared.operators.Operator.{Operator}
use Rattle.rw_number_steps.specs.declared.operators.Operator.TheVariants as code

abbrev pub operator_seen : Operator → rich.Operator
operator_seen (code.Eqz w) = rich.Eqz w
operator_seen (code.Compare operator w) = rich.Compare operator w
operator_seen (code.Unary operator w) = rich.Unary operator w
operator_seen (code.Binary operator w) = rich.Binary operator w
operator_seen (code.Convert operator) = rich.Convert operator
