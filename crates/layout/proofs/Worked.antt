-- The written rows, computed.
use Rattle.std.proofs.Common.{refl}
use Rattle.layout.specs.Worked.{WorkedLayouts}

pub worked : WorkedLayouts
unfolding Rattle.rw_types.specs.declared.types.Heap.TheBlock.hidden-the_row-Ty-1 Rattle.rw_types.specs.declared.types.Heap.TheBlock.hidden-the_row-Ty-2 Rattle.rw_types.specs.declared.types.Heap.TheBlock.hidden-the_row-Slot-0 Rattle.rw_types.specs.declared.types.Heap.TheBlock.hidden-the_row-FunType-3 denote.Hole.Carrier.hidden denote.Hole.Carrier.shown
worked = record { offsets = refl; frame = refl; start = refl; widest = refl; too_wide = refl; handed = refl; most = refl; too_many = refl }
