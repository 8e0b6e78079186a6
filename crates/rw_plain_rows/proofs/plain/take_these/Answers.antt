-- The row is that of the operands that the slice holds.
use Rattle.rw_operand_stack.specs.Operands.{types_of}
use Rattle.rw_plain_rows.proofs.Parts.{not_these, given_for_these}
use Rattle.rw_plain_rows.proofs.plain.take_these.Goals as goal

pub returns-in-Err-clause-row : goal.returns-in-Err-clause-row
returns-in-Err-clause-row c = not_these c.args.taken.now c.args.given.now c.as_slice.result.now c.args.s.now.operands c.as_slice.ensures c.in-Err.error c.in-Err.ensures

pub returns-clause-row : goal.returns-clause-row
returns-clause-row c = given_for_these c.args.taken.now c.args.given.now c.as_slice.result.now c.args.s.now.operands c.as_slice.ensures c.take_off.new.s.operands (types_of c.give_all.new.s.operands) c.in_default.ensures c.take_off.ensures.operands c.in_ok-give_all.ensures.operands
