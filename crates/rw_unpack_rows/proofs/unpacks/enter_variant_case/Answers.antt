-- The operand on top is a reference to a variant or not.
use Rattle.rw_operand_stack.specs.Operands.{types_of}
use Rattle.rw_block_rows.specs.Entries.{with_slots, standing}
use Rattle.rw_unpack_rows.proofs.Inside.{case_untaken, case_broken, case_opened}
use Rattle.rw_unpack_rows.proofs.unpacks.enter_variant_case.Goals as goal

pub returns-in-Err-clause-row : goal.returns-in-Err-clause-row
returns-in-Err-clause-row c = λ f p.
    let at = standing c.args.c.now.binders c.args.locals.now (types_of c.args.s.now.operands) p in
    case_untaken at c.args.b.now (with_slots c.args.slots.now f) c.in-Err.error (c.in-Err.ensures.row f p) c.args.lists

pub returns-in-Err-look_cases-clause-row : goal.returns-in-Err-look_cases-clause-row
returns-in-Err-look_cases-clause-row c = λ f p.
    let at = standing c.args.c.now.binders c.args.locals.now (types_of c.args.s.now.operands) p in
    case_broken at c.args.b.now (with_slots c.args.slots.now f) c.in-Ok.top (types_of c.take_block_operand.new.s.operands) (c.in-Ok.ensures.row f p) c.args.lists c.in-Err-look_cases.error c.in-Err-look_cases.ensures

pub returns-clause-row : goal.returns-clause-row
returns-clause-row c = λ f p.
    let at = standing c.args.c.now.binders c.args.locals.now (types_of c.args.s.now.operands) p in
    case_opened at c.args.b.now (with_slots c.args.slots.now f) c.in-Ok.top (types_of c.take_block_operand.new.s.operands) (c.in-Ok.ensures.row f p) c.args.lists c.in-Ok-look_cases.cases c.in_ok-entry_over.field-0 c.in-Ok-look_cases.ensures c.in_ok-entry_over.ensures
