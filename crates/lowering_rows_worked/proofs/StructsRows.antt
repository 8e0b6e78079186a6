-- The rows, computed.
use Rattle.std.proofs.Common.{refl}
use Rattle.lowering_rows_worked.specs.StructsRows.{DividingLowered, JoiningLowered, OtherTypesLowered, PackingLowered, QualifyingLowered, SplittingLowered, SwappingLowered, WideSlotsLowered}

pub wide_slots : WideSlotsLowered
unfolding Rattle.rw_types.specs.declared.instrs.Instr.TheBlock.shape-the_row-Instr-0 Rattle.rw_types.specs.declared.instrs.Instr.TheBlock.hidden-the_row-Instr-0 Rattle.rw_types.specs.declared.instrs.Instr.TheBlock.shape-the_row-Instr-VariantCase-1-1-1 Rattle.rw_types.specs.declared.instrs.Instr.TheBlock.hidden-the_row-Instr-VariantCase-1-1-1 Rattle.rw_types.specs.declared.types.Heap.TheBlock.hidden-the_row-Ty-1 Rattle.rw_types.specs.declared.types.Heap.TheBlock.hidden-the_row-Ty-2 Rattle.rw_types.specs.declared.types.Heap.TheBlock.hidden-the_row-Slot-0 Rattle.rw_types.specs.declared.types.Heap.TheBlock.hidden-the_row-FunType-3 denote.Hole.Carrier.hidden denote.Hole.Carrier.shown
wide_slots = refl

pub other_types : OtherTypesLowered
unfolding Rattle.rw_types.specs.declared.instrs.Instr.TheBlock.shape-the_row-Instr-0 Rattle.rw_types.specs.declared.instrs.Instr.TheBlock.hidden-the_row-Instr-0 Rattle.rw_types.specs.declared.instrs.Instr.TheBlock.shape-the_row-Instr-VariantCase-1-1-1 Rattle.rw_types.specs.declared.instrs.Instr.TheBlock.hidden-the_row-Instr-VariantCase-1-1-1 Rattle.rw_types.specs.declared.types.Heap.TheBlock.hidden-the_row-Ty-1 Rattle.rw_types.specs.declared.types.Heap.TheBlock.hidden-the_row-Ty-2 Rattle.rw_types.specs.declared.types.Heap.TheBlock.hidden-the_row-Slot-0 Rattle.rw_types.specs.declared.types.Heap.TheBlock.hidden-the_row-FunType-3 denote.Hole.Carrier.hidden denote.Hole.Carrier.shown
other_types = refl

pub swapping : SwappingLowered
unfolding Rattle.rw_types.specs.declared.instrs.Instr.TheBlock.shape-the_row-Instr-0 Rattle.rw_types.specs.declared.instrs.Instr.TheBlock.hidden-the_row-Instr-0 Rattle.rw_types.specs.declared.instrs.Instr.TheBlock.shape-the_row-Instr-VariantCase-1-1-1 Rattle.rw_types.specs.declared.instrs.Instr.TheBlock.hidden-the_row-Instr-VariantCase-1-1-1 Rattle.rw_types.specs.declared.types.Heap.TheBlock.hidden-the_row-Ty-1 Rattle.rw_types.specs.declared.types.Heap.TheBlock.hidden-the_row-Ty-2 Rattle.rw_types.specs.declared.types.Heap.TheBlock.hidden-the_row-Slot-0 Rattle.rw_types.specs.declared.types.Heap.TheBlock.hidden-the_row-FunType-3 denote.Hole.Carrier.hidden denote.Hole.Carrier.shown
swapping = refl

pub splitting : SplittingLowered
unfolding Rattle.rw_types.specs.declared.instrs.Instr.TheBlock.shape-the_row-Instr-0 Rattle.rw_types.specs.declared.instrs.Instr.TheBlock.hidden-the_row-Instr-0 Rattle.rw_types.specs.declared.instrs.Instr.TheBlock.shape-the_row-Instr-VariantCase-1-1-1 Rattle.rw_types.specs.declared.instrs.Instr.TheBlock.hidden-the_row-Instr-VariantCase-1-1-1 Rattle.rw_types.specs.declared.types.Heap.TheBlock.hidden-the_row-Ty-1 Rattle.rw_types.specs.declared.types.Heap.TheBlock.hidden-the_row-Ty-2 Rattle.rw_types.specs.declared.types.Heap.TheBlock.hidden-the_row-Slot-0 Rattle.rw_types.specs.declared.types.Heap.TheBlock.hidden-the_row-FunType-3 denote.Hole.Carrier.hidden denote.Hole.Carrier.shown
splitting = refl

pub joining : JoiningLowered
unfolding Rattle.rw_types.specs.declared.instrs.Instr.TheBlock.shape-the_row-Instr-0 Rattle.rw_types.specs.declared.instrs.Instr.TheBlock.hidden-the_row-Instr-0 Rattle.rw_types.specs.declared.instrs.Instr.TheBlock.shape-the_row-Instr-VariantCase-1-1-1 Rattle.rw_types.specs.declared.instrs.Instr.TheBlock.hidden-the_row-Instr-VariantCase-1-1-1 Rattle.rw_types.specs.declared.types.Heap.TheBlock.hidden-the_row-Ty-1 Rattle.rw_types.specs.declared.types.Heap.TheBlock.hidden-the_row-Ty-2 Rattle.rw_types.specs.declared.types.Heap.TheBlock.hidden-the_row-Slot-0 Rattle.rw_types.specs.declared.types.Heap.TheBlock.hidden-the_row-FunType-3 denote.Hole.Carrier.hidden denote.Hole.Carrier.shown
joining = refl

pub packing : PackingLowered
unfolding Rattle.rw_types.specs.declared.instrs.Instr.TheBlock.shape-the_row-Instr-0 Rattle.rw_types.specs.declared.instrs.Instr.TheBlock.hidden-the_row-Instr-0 Rattle.rw_types.specs.declared.instrs.Instr.TheBlock.shape-the_row-Instr-VariantCase-1-1-1 Rattle.rw_types.specs.declared.instrs.Instr.TheBlock.hidden-the_row-Instr-VariantCase-1-1-1 Rattle.rw_types.specs.declared.types.Heap.TheBlock.hidden-the_row-Ty-1 Rattle.rw_types.specs.declared.types.Heap.TheBlock.hidden-the_row-Ty-2 Rattle.rw_types.specs.declared.types.Heap.TheBlock.hidden-the_row-Slot-0 Rattle.rw_types.specs.declared.types.Heap.TheBlock.hidden-the_row-FunType-3 denote.Hole.Carrier.hidden denote.Hole.Carrier.shown
packing = refl

pub dividing : DividingLowered
unfolding Rattle.rw_types.specs.declared.instrs.Instr.TheBlock.shape-the_row-Instr-0 Rattle.rw_types.specs.declared.instrs.Instr.TheBlock.hidden-the_row-Instr-0 Rattle.rw_types.specs.declared.instrs.Instr.TheBlock.shape-the_row-Instr-VariantCase-1-1-1 Rattle.rw_types.specs.declared.instrs.Instr.TheBlock.hidden-the_row-Instr-VariantCase-1-1-1 Rattle.rw_types.specs.declared.types.Heap.TheBlock.hidden-the_row-Ty-1 Rattle.rw_types.specs.declared.types.Heap.TheBlock.hidden-the_row-Ty-2 Rattle.rw_types.specs.declared.types.Heap.TheBlock.hidden-the_row-Slot-0 Rattle.rw_types.specs.declared.types.Heap.TheBlock.hidden-the_row-FunType-3 denote.Hole.Carrier.hidden denote.Hole.Carrier.shown
dividing = refl

pub qualifying : QualifyingLowered
unfolding Rattle.rw_types.specs.declared.instrs.Instr.TheBlock.shape-the_row-Instr-0 Rattle.rw_types.specs.declared.instrs.Instr.TheBlock.hidden-the_row-Instr-0 Rattle.rw_types.specs.declared.instrs.Instr.TheBlock.shape-the_row-Instr-VariantCase-1-1-1 Rattle.rw_types.specs.declared.instrs.Instr.TheBlock.hidden-the_row-Instr-VariantCase-1-1-1 Rattle.rw_types.specs.declared.types.Heap.TheBlock.hidden-the_row-Ty-1 Rattle.rw_types.specs.declared.types.Heap.TheBlock.hidden-the_row-Ty-2 Rattle.rw_types.specs.declared.types.Heap.TheBlock.hidden-the_row-Slot-0 Rattle.rw_types.specs.declared.types.Heap.TheBlock.hidden-the_row-FunType-3 denote.Hole.Carrier.hidden denote.Hole.Carrier.shown
qualifying = refl
