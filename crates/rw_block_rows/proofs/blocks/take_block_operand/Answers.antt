-- The signature stands, and the operands are taken or not.
use Rattle.rw_operand_stack.specs.Operands.{types_of}
use Rattle.rw_block_rows.specs.Entries.{with_slots, standing}
use Rattle.rw_block_rows.proofs.Opened.{top_told}
use Rattle.rw_block_rows.proofs.blocks.take_block_operand.Goals as goal

pub returns-clause-row : goal.returns-clause-row
returns-clause-row c = λ f p.
    let at = standing c.args.c.now.binders c.args.locals.now (types_of c.args.s.now.operands) p in
    top_told (with_slots c.args.slots.now f) at c.args.b.now (c.in_default.ensures f at) c.as_slice.result.now c.as_slice.ensures.items c.take_one_over.result (types_of c.take_one_over.new.s.operands) c.take_one_over.ensures.row
