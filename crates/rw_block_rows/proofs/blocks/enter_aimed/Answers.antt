-- The signature stands, and the operands are taken or not.
use Rattle.std.proofs.Common.{◌∙◌, [], ap}
use Rattle.rich_rules.specs.Blocks.{entry}
use Rattle.rich_rules.specs.Points.{Enters}
use Rattle.rw_operand_stack.specs.Operands.{types_of}
use Rattle.rw_block_rows.specs.Entries.{with_slots, standing, label_at, entry_over}
use Rattle.rw_block_rows.proofs.Opened.{these_broken, over_opened}
use Rattle.rw_block_rows.proofs.blocks.enter_aimed.Goals as goal

pub returns-in-Err-take_demanded-clause-row : goal.returns-in-Err-take_demanded-clause-row
returns-in-Err-take_demanded-clause-row c = λ f p.
    let at = standing c.args.c.now.binders c.args.locals.now (types_of c.args.s.now.operands) p in
    these_broken (with_slots c.args.slots.now f) at c.args.b.now (c.in_default.ensures f at) c.as_slice.result.now c.as_slice.ensures.items (λ beneath. Enters (entry at c.args.b.now (label_at c.args.aim at c.args.b.now beneath) beneath [])) c.in-Err-take_demanded.error c.in-Err-take_demanded.ensures.row

pub returns-clause-row : goal.returns-clause-row
returns-clause-row c = λ f p.
    let at = standing c.args.c.now.binders c.args.locals.now (types_of c.args.s.now.operands) p in
    over_opened (with_slots c.args.slots.now f) at c.args.b.now (c.in_default.ensures f at) c.as_slice.result.now c.as_slice.ensures.items c.args.aim c.in_ok-entry_over.field-0 (types_of c.take_demanded.new.s.operands) c.in_default-take_demanded.ensures.row (c.in_ok-entry_over.ensures ∙ ap (entry_over c.args.aim c.args.locals.now c.args.b.now) c.new.ensures)
