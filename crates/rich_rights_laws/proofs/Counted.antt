-- The rows, computed.
use Rattle.std.proofs.Common.{refl}
use Rattle.rich_rights_laws.specs.Rows.{ValuesCount, SwappedCount, SplitCount}

pub values : ValuesCount
values = ((refl, refl, refl), (refl, refl, refl))

pub swapped : SwappedCount
unfolding Rattle.rw_types.specs.declared.instrs.Instr.TheBlock.shape-the_row-Instr-0 Rattle.rw_types.specs.declared.instrs.Instr.TheBlock.hidden-the_row-Instr-0 denote.Hole.Carrier.hidden denote.Hole.Carrier.shown
swapped = ((refl, refl, refl, refl, refl, refl), (refl, refl, refl, refl, refl, refl), (refl, refl, refl, refl, refl, refl), (refl, refl, refl, refl, refl, refl), (refl, refl, refl, refl, refl, refl))

pub split : SplitCount
unfolding Rattle.rw_types.specs.declared.instrs.Instr.TheBlock.shape-the_row-Instr-0 Rattle.rw_types.specs.declared.instrs.Instr.TheBlock.hidden-the_row-Instr-0 denote.Hole.Carrier.hidden denote.Hole.Carrier.shown
split = ((refl, refl, refl, refl, refl, refl), (refl, refl, refl, refl, refl, refl), (refl, refl, refl, refl, refl, refl))
