-- The rows, computed.
use Rattle.std.proofs.Common.{refl}
use Rattle.lowering_rows_worked.specs.ArraysRows.{ArrayOfPairsLowered, ArrayPastItsEndLowered, WordlessArrayLowered}

pub wordless_array : WordlessArrayLowered
unfolding Rattle.rw_types.specs.declared.instrs.Instr.TheBlock.shape-the_row-Instr-0 Rattle.rw_types.specs.declared.instrs.Instr.TheBlock.hidden-the_row-Instr-0 Rattle.rw_types.specs.declared.instrs.Instr.TheBlock.shape-the_row-Instr-VariantCase-1-1-1 Rattle.rw_types.specs.declared.instrs.Instr.TheBlock.hidden-the_row-Instr-VariantCase-1-1-1 Rattle.rw_types.specs.declared.types.Heap.TheBlock.hidden-the_row-Ty-1 Rattle.rw_types.specs.declared.types.Heap.TheBlock.hidden-the_row-Ty-2 Rattle.rw_types.specs.declared.types.Heap.TheBlock.hidden-the_row-Slot-0 Rattle.rw_types.specs.declared.types.Heap.TheBlock.hidden-the_row-FunType-3 denote.Hole.Carrier.hidden denote.Hole.Carrier.shown
wordless_array = refl

pub array_of_pairs : ArrayOfPairsLowered
unfolding Rattle.rw_types.specs.declared.instrs.Instr.TheBlock.shape-the_row-Instr-0 Rattle.rw_types.specs.declared.instrs.Instr.TheBlock.hidden-the_row-Instr-0 Rattle.rw_types.specs.declared.instrs.Instr.TheBlock.shape-the_row-Instr-VariantCase-1-1-1 Rattle.rw_types.specs.declared.instrs.Instr.TheBlock.hidden-the_row-Instr-VariantCase-1-1-1 Rattle.rw_types.specs.declared.types.Heap.TheBlock.hidden-the_row-Ty-1 Rattle.rw_types.specs.declared.types.Heap.TheBlock.hidden-the_row-Ty-2 Rattle.rw_types.specs.declared.types.Heap.TheBlock.hidden-the_row-Slot-0 Rattle.rw_types.specs.declared.types.Heap.TheBlock.hidden-the_row-FunType-3 denote.Hole.Carrier.hidden denote.Hole.Carrier.shown
array_of_pairs = refl

pub array_past_its_end : ArrayPastItsEndLowered
unfolding Rattle.rw_types.specs.declared.instrs.Instr.TheBlock.shape-the_row-Instr-0 Rattle.rw_types.specs.declared.instrs.Instr.TheBlock.hidden-the_row-Instr-0 Rattle.rw_types.specs.declared.instrs.Instr.TheBlock.shape-the_row-Instr-VariantCase-1-1-1 Rattle.rw_types.specs.declared.instrs.Instr.TheBlock.hidden-the_row-Instr-VariantCase-1-1-1 Rattle.rw_types.specs.declared.types.Heap.TheBlock.hidden-the_row-Ty-1 Rattle.rw_types.specs.declared.types.Heap.TheBlock.hidden-the_row-Ty-2 Rattle.rw_types.specs.declared.types.Heap.TheBlock.hidden-the_row-Slot-0 Rattle.rw_types.specs.declared.types.Heap.TheBlock.hidden-the_row-FunType-3 denote.Hole.Carrier.hidden denote.Hole.Carrier.shown
array_past_its_end = refl
