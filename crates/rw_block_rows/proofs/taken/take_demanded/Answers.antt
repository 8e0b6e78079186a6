-- The operands are those that the slice holds.
use Rattle.rw_block_rows.proofs.Tops.{not_these, these_left}
use Rattle.rw_block_rows.proofs.taken.take_demanded.Goals as goal

pub returns-in-Err-clause-row : goal.returns-in-Err-clause-row
returns-in-Err-clause-row c = not_these c.args.demanded.now c.as_slice.result.now c.args.s.now.operands c.as_slice.ensures c.in-Err.error c.in-Err.ensures

pub returns-clause-row : goal.returns-clause-row
returns-clause-row c = these_left c.args.demanded.now c.as_slice.result.now c.args.s.now.operands c.as_slice.ensures c.take_off.new.s.operands c.in_default.ensures c.take_off.ensures.operands
