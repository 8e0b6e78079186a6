use Rattle.std.proofs.Common.{vec_len}
use Rattle.rw_operand_stack.proofs.stack.Stack.give_up.Given as goal

abbrev pub decreases-loop-operand : goal.decreases-loop-operand
decreases-loop-operand l = vec_len l.operands
