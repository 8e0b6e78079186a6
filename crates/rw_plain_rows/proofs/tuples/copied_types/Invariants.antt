-- The types so far.
use Rattle.std.proofs.Common.{◌≡◌, take}
use Rattle.rw_operand_stack.specs.Operands.{types_of}
use Rattle.rw_plain_rows.proofs.tuples.copied_types.Given as goal

abbrev pub invariant-loop-operand : goal.invariant-loop-operand
invariant-loop-operand l = l.types ≡ types_of (take l.operand-index l.operands)
