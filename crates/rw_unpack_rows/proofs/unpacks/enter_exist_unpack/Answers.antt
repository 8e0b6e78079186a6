-- The operand on top hides a type or not.
use Rattle.rw_operand_stack.specs.Operands.{types_of}
use Rattle.rw_block_rows.specs.Entries.{with_slots, standing}
use Rattle.rw_unpack_rows.proofs.Inside.{exist_untaken, exist_broken, exist_opened}
use Rattle.rw_unpack_rows.proofs.unpacks.enter_exist_unpack.Goals as goal

pub returns-in-Err-clause-row : goal.returns-in-Err-clause-row
returns-in-Err-clause-row c = λ f p.
    let at = standing c.args.c.now.binders c.args.locals.now (types_of c.args.s.now.operands) p in
    exist_untaken at c.args.b.now (with_slots c.args.slots.now f) c.in-Err.error (c.in-Err.ensures.row f p)

pub returns-in-Err-look_package-clause-row : goal.returns-in-Err-look_package-clause-row
returns-in-Err-look_package-clause-row c = λ f p.
    let at = standing c.args.c.now.binders c.args.locals.now (types_of c.args.s.now.operands) p in
    exist_broken at c.args.b.now (with_slots c.args.slots.now f) c.in-Ok.top (types_of c.take_block_operand.new.s.operands) (c.in-Ok.ensures.row f p) c.in-Err-look_package.error c.in-Err-look_package.ensures

pub returns-clause-row : goal.returns-clause-row
returns-clause-row c = λ f p.
    let at = standing c.args.c.now.binders c.args.locals.now (types_of c.args.s.now.operands) p in
    exist_opened at c.args.b.now (with_slots c.args.slots.now f) c.in-Ok.top (types_of c.take_block_operand.new.s.operands) (c.in-Ok.ensures.row f p) c.in-Ok-look_package.hidden.binder c.in-Ok-look_package.hidden.body c.in_ok-entry_inside.field-0 c.in-Ok-look_package.ensures c.in_ok-entry_inside.ensures
