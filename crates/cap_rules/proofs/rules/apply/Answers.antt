-- The row of the binders and operands is the table's.
use Rattle.rw_operand_stack.specs.Operands.{types_of}
use Rattle.cap_rules.proofs.Cells.{said}
use Rattle.cap_rules.proofs.rules.apply.Goals as goal

pub returns-clause-row : goal.returns-clause-row
returns-clause-row c = said c.dispatch.result c.args.c.now.binders (types_of c.args.s.now.operands) c.args.i.now (types_of c.dispatch.new.s.operands) c.requires c.dispatch.ensures.row
