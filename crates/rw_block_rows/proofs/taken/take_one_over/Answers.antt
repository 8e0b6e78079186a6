-- The top operand is taken, and then those under it.
use Rattle.rich_types.specs.Scopes.{scope_of}
use Rattle.rw_operand_stack.specs.Operands.{types_of}
use Rattle.rw_block_rows.proofs.Tops.{one_left, not_under, marked_under}
use Rattle.rw_block_rows.proofs.taken.take_one_over.Goals as goal

pub returns-in-Ok-clause-row : goal.returns-in-Ok-clause-row
returns-in-Ok-clause-row c = one_left c.args.demanded.now c.args.s.now.operands c.take_top.new.s.operands c.in_ok-top.top c.in_ok-top.ensures.operands c.spend.result (types_of c.take_demanded.new.s.operands) c.spend.ensures c.in-Ok.ensures.row

pub returns-in-Ok-clause-marked : goal.returns-in-Ok-clause-marked
returns-in-Ok-clause-marked c = λ a. c.in-Ok.ensures.marked (marked_under c.args.demanded.now c.args.s.now.operands c.take_top.new.s.operands c.in_ok-top.top c.in_ok-top.ensures.operands (scope_of c.args.c.now.binders) a)

pub returns-in-Err-clause-row : goal.returns-in-Err-clause-row
returns-in-Err-clause-row c = not_under c.args.demanded.now c.args.s.now.operands c.take_top.new.s.operands c.in_ok-top.top c.in_ok-top.ensures.operands c.in-Err.error c.in-Err.ensures.row

pub returns-in-Err-clause-marked : goal.returns-in-Err-clause-marked
returns-in-Err-clause-marked c = λ a. c.in-Err.ensures.marked (marked_under c.args.demanded.now c.args.s.now.operands c.take_top.new.s.operands c.in_ok-top.top c.in_ok-top.ensures.operands (scope_of c.args.c.now.binders) a)
