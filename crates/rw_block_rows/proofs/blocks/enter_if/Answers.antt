-- The operand on top is a number or not.
use Rattle.std.proofs.Common.{◌∙◌, [], ap}
use Rattle.rich_rules.specs.Blocks.{entry, end_label}
use Rattle.rich_rules.specs.Points.{Enters}
use Rattle.rich_rules.specs.Takers.{unr_i32, of_type}
use Rattle.rw_operand_stack.specs.Operands.{types_of}
use Rattle.rw_block_rows.specs.declared.entries.Aim.TheVariants.{Behind}
use Rattle.rw_block_rows.specs.Entries.{with_slots, standing, entry_over}
use Rattle.rw_block_rows.proofs.Opened.{if_broken, if_opened}
use Rattle.rw_block_rows.proofs.blocks.enter_if.Goals as goal

pub returns-in-Err-clause-row : goal.returns-in-Err-clause-row
returns-in-Err-clause-row c = λ f p.
    let at = standing c.args.c.now.binders c.args.locals.now (types_of c.args.s.now.operands) p in
    c.in-Err.ensures.row f p (λ t beneath. of_type unr_i32 t (Enters (entry at c.args.b.now (end_label at c.args.b.now beneath) beneath [])))

pub returns-in-Err-look_number-clause-row : goal.returns-in-Err-look_number-clause-row
returns-in-Err-look_number-clause-row c = λ f p.
    let at = standing c.args.c.now.binders c.args.locals.now (types_of c.args.s.now.operands) p in
    if_broken (with_slots c.args.slots.now f) at c.args.b.now c.in-Ok.top (types_of c.take_block_operand.new.s.operands) (c.in-Ok.ensures.row f p) c.in-Err-look_number.error c.in-Err-look_number.ensures

pub returns-clause-row : goal.returns-clause-row
returns-clause-row c = λ f p.
    let at = standing c.args.c.now.binders c.args.locals.now (types_of c.args.s.now.operands) p in
    if_opened (with_slots c.args.slots.now f) at c.args.b.now c.in-Ok.top (types_of c.take_block_operand.new.s.operands) (c.in-Ok.ensures.row f p) c.in_ok-entry_over.field-0 c.in_default.ensures (c.in_ok-entry_over.ensures ∙ ap (entry_over Behind c.args.locals.now c.args.b.now) c.new.ensures)
