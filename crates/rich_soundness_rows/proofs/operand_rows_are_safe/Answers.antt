use Rattle.rich_soundness_rows.proofs.Operands.{operand_rows}
use Rattle.rich_soundness_rows.proofs.operand_rows_are_safe.Goals as goal

pub returns : goal.returns
returns c = operand_rows
