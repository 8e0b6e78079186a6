-- The row is that of the operands that the slice holds.
use Rattle.rich_types.specs.Scopes.{scope_of}
use Rattle.rw_operand_stack.specs.Operands.{types_of}
use Rattle.rw_call_rows.proofs.Called.{not_taken, not_formed, called}
use Rattle.rw_call_rows.proofs.calls.take_formed.Goals as goal

pub returns-in-Err-clause-row : goal.returns-in-Err-clause-row
returns-in-Err-clause-row c = not_taken (scope_of c.args.c.now.binders) c.args.taken.now c.args.given.now c.as_slice.result.now c.args.s.now.operands c.as_slice.ensures c.in-Err.error c.in-Err.ensures

pub returns-in-Some-clause-row : goal.returns-in-Some-clause-row
returns-in-Some-clause-row c = not_formed (scope_of c.args.c.now.binders) c.args.taken.now c.args.given.now c.as_slice.result.now c.args.s.now.operands c.as_slice.ensures c.in_default.ensures c.broken.result c.in-Some.t.now c.in-Some.ensures c.broken.ensures

pub returns-clause-row : goal.returns-clause-row
returns-clause-row c = called (scope_of c.args.c.now.binders) c.args.taken.now c.args.given.now c.as_slice.result.now c.args.s.now.operands c.as_slice.ensures c.in_default.ensures c.take_off.new.s.operands (types_of c.give_all.new.s.operands) c.in_default-first_ill_formed.ensures c.take_off.ensures.operands c.in_ok-give_all.ensures.operands
