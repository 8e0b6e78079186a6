-- The operand on top hides a type or not.
use Rattle.rw_operand_stack.specs.Operands.{types_of}
use Rattle.rw_block_rows.specs.Entries.{with_slots, standing}
use Rattle.rw_unpack_rows.proofs.Inside.{mem_untaken, mem_broken, mem_opened}
use Rattle.rw_unpack_rows.proofs.unpacks.enter_mem_unpack.Goals as goal

pub returns-in-Err-clause-row : goal.returns-in-Err-clause-row
returns-in-Err-clause-row c = λ f p.
    let at = standing c.args.c.now.binders c.args.locals.now (types_of c.args.s.now.operands) p in
    mem_untaken at c.args.b.now (with_slots c.args.slots.now f) c.in-Err.error (c.in-Err.ensures.row f p)

pub returns-in-Err-look_hidden-clause-row : goal.returns-in-Err-look_hidden-clause-row
returns-in-Err-look_hidden-clause-row c = λ f p.
    let at = standing c.args.c.now.binders c.args.locals.now (types_of c.args.s.now.operands) p in
    mem_broken at c.args.b.now (with_slots c.args.slots.now f) c.in-Ok.top (types_of c.take_block_operand.new.s.operands) (c.in-Ok.ensures.row f p) c.in-Err-look_hidden.error c.in-Err-look_hidden.ensures

pub returns-clause-row : goal.returns-clause-row
returns-clause-row c = λ f p.
    let at = standing c.args.c.now.binders c.args.locals.now (types_of c.args.s.now.operands) p in
    mem_opened at c.args.b.now (with_slots c.args.slots.now f) c.in-Ok.top (types_of c.take_block_operand.new.s.operands) (c.in-Ok.ensures.row f p) c.in-Ok-look_hidden.hidden.binder c.in-Ok-look_hidden.hidden.body c.in_ok-entry_inside.field-0 c.in-Ok-look_hidden.ensures c.in_ok-entry_inside.ensures
