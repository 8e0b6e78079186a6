-- What differs first from here on differs first of all.
use Rattle.std.proofs.Common.{◌≡◌, drop}
use Rattle.rich_rules.specs.Takers.{first_difference}
use Rattle.rw_operand_stack.specs.Operands.{types_of}
use Rattle.rw_demands.proofs.differences.look_operands.Given as goal

abbrev pub invariant-loop-at : goal.invariant-loop-at
invariant-loop-at l = first_difference (types_of (drop l.at l.operands)) (drop l.at l.demanded) ≡ first_difference (types_of l.operands) l.demanded
