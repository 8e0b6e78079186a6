-- The rows, computed.
use Rattle.std.proofs.Common.{refl}
use Rattle.lowering_rows_worked.specs.OpeningRows.{CellInAVariantLowered, GreatestCaseLowered, LeavingABlockLowered, LeavingACaseLowered, ParametersBeneathLowered, ParametersOfAPackageLowered, UnrestrictedPackageLowered}

pub leaving_a_case : LeavingACaseLowered
unfolding Rattle.rw_types.specs.declared.instrs.Instr.TheBlock.shape-the_row-Instr-0 Rattle.rw_types.specs.declared.instrs.Instr.TheBlock.hidden-the_row-Instr-0 Rattle.rw_types.specs.declared.instrs.Instr.TheBlock.shape-the_row-Instr-VariantCase-1-1-1 Rattle.rw_types.specs.declared.instrs.Instr.TheBlock.hidden-the_row-Instr-VariantCase-1-1-1 Rattle.rw_types.specs.declared.types.Heap.TheBlock.hidden-the_row-Ty-1 Rattle.rw_types.specs.declared.types.Heap.TheBlock.hidden-the_row-Ty-2 Rattle.rw_types.specs.declared.types.Heap.TheBlock.hidden-the_row-Slot-0 Rattle.rw_types.specs.declared.types.Heap.TheBlock.hidden-the_row-FunType-3 denote.Hole.Carrier.hidden denote.Hole.Carrier.shown
leaving_a_case = refl

pub leaving_a_block : LeavingABlockLowered
unfolding Rattle.rw_types.specs.declared.instrs.Instr.TheBlock.shape-the_row-Instr-0 Rattle.rw_types.specs.declared.instrs.Instr.TheBlock.hidden-the_row-Instr-0 Rattle.rw_types.specs.declared.instrs.Instr.TheBlock.shape-the_row-Instr-VariantCase-1-1-1 Rattle.rw_types.specs.declared.instrs.Instr.TheBlock.hidden-the_row-Instr-VariantCase-1-1-1 Rattle.rw_types.specs.declared.types.Heap.TheBlock.hidden-the_row-Ty-1 Rattle.rw_types.specs.declared.types.Heap.TheBlock.hidden-the_row-Ty-2 Rattle.rw_types.specs.declared.types.Heap.TheBlock.hidden-the_row-Slot-0 Rattle.rw_types.specs.declared.types.Heap.TheBlock.hidden-the_row-FunType-3 denote.Hole.Carrier.hidden denote.Hole.Carrier.shown
leaving_a_block = refl

pub parameters_beneath : ParametersBeneathLowered
unfolding Rattle.rw_types.specs.declared.instrs.Instr.TheBlock.shape-the_row-Instr-0 Rattle.rw_types.specs.declared.instrs.Instr.TheBlock.hidden-the_row-Instr-0 Rattle.rw_types.specs.declared.instrs.Instr.TheBlock.shape-the_row-Instr-VariantCase-1-1-1 Rattle.rw_types.specs.declared.instrs.Instr.TheBlock.hidden-the_row-Instr-VariantCase-1-1-1 Rattle.rw_types.specs.declared.types.Heap.TheBlock.hidden-the_row-Ty-1 Rattle.rw_types.specs.declared.types.Heap.TheBlock.hidden-the_row-Ty-2 Rattle.rw_types.specs.declared.types.Heap.TheBlock.hidden-the_row-Slot-0 Rattle.rw_types.specs.declared.types.Heap.TheBlock.hidden-the_row-FunType-3 denote.Hole.Carrier.hidden denote.Hole.Carrier.shown
parameters_beneath = refl

pub parameters_of_a_package : ParametersOfAPackageLowered
unfolding Rattle.rw_types.specs.declared.instrs.Instr.TheBlock.shape-the_row-Instr-0 Rattle.rw_types.specs.declared.instrs.Instr.TheBlock.hidden-the_row-Instr-0 Rattle.rw_types.specs.declared.instrs.Instr.TheBlock.shape-the_row-Instr-VariantCase-1-1-1 Rattle.rw_types.specs.declared.instrs.Instr.TheBlock.hidden-the_row-Instr-VariantCase-1-1-1 Rattle.rw_types.specs.declared.types.Heap.TheBlock.hidden-the_row-Ty-1 Rattle.rw_types.specs.declared.types.Heap.TheBlock.hidden-the_row-Ty-2 Rattle.rw_types.specs.declared.types.Heap.TheBlock.hidden-the_row-Slot-0 Rattle.rw_types.specs.declared.types.Heap.TheBlock.hidden-the_row-FunType-3 denote.Hole.Carrier.hidden denote.Hole.Carrier.shown
parameters_of_a_package = refl

pub unrestricted_package : UnrestrictedPackageLowered
unfolding Rattle.rw_types.specs.declared.instrs.Instr.TheBlock.shape-the_row-Instr-0 Rattle.rw_types.specs.declared.instrs.Instr.TheBlock.hidden-the_row-Instr-0 Rattle.rw_types.specs.declared.instrs.Instr.TheBlock.shape-the_row-Instr-VariantCase-1-1-1 Rattle.rw_types.specs.declared.instrs.Instr.TheBlock.hidden-the_row-Instr-VariantCase-1-1-1 Rattle.rw_types.specs.declared.types.Heap.TheBlock.hidden-the_row-Ty-1 Rattle.rw_types.specs.declared.types.Heap.TheBlock.hidden-the_row-Ty-2 Rattle.rw_types.specs.declared.types.Heap.TheBlock.hidden-the_row-Slot-0 Rattle.rw_types.specs.declared.types.Heap.TheBlock.hidden-the_row-FunType-3 denote.Hole.Carrier.hidden denote.Hole.Carrier.shown
unrestricted_package = refl

pub cell_in_a_variant : CellInAVariantLowered
unfolding Rattle.rw_types.specs.declared.instrs.Instr.TheBlock.shape-the_row-Instr-0 Rattle.rw_types.specs.declared.instrs.Instr.TheBlock.hidden-the_row-Instr-0 Rattle.rw_types.specs.declared.instrs.Instr.TheBlock.shape-the_row-Instr-VariantCase-1-1-1 Rattle.rw_types.specs.declared.instrs.Instr.TheBlock.hidden-the_row-Instr-VariantCase-1-1-1 Rattle.rw_types.specs.declared.types.Heap.TheBlock.hidden-the_row-Ty-1 Rattle.rw_types.specs.declared.types.Heap.TheBlock.hidden-the_row-Ty-2 Rattle.rw_types.specs.declared.types.Heap.TheBlock.hidden-the_row-Slot-0 Rattle.rw_types.specs.declared.types.Heap.TheBlock.hidden-the_row-FunType-3 denote.Hole.Carrier.hidden denote.Hole.Carrier.shown
cell_in_a_variant = refl

pub greatest_case : GreatestCaseLowered
unfolding Rattle.rw_types.specs.declared.instrs.Instr.TheBlock.shape-the_row-Instr-0 Rattle.rw_types.specs.declared.instrs.Instr.TheBlock.hidden-the_row-Instr-0 Rattle.rw_types.specs.declared.instrs.Instr.TheBlock.shape-the_row-Instr-VariantCase-1-1-1 Rattle.rw_types.specs.declared.instrs.Instr.TheBlock.hidden-the_row-Instr-VariantCase-1-1-1 Rattle.rw_types.specs.declared.types.Heap.TheBlock.hidden-the_row-Ty-1 Rattle.rw_types.specs.declared.types.Heap.TheBlock.hidden-the_row-Ty-2 Rattle.rw_types.specs.declared.types.Heap.TheBlock.hidden-the_row-Slot-0 Rattle.rw_types.specs.declared.types.Heap.TheBlock.hidden-the_row-FunType-3 denote.Hole.Carrier.hidden denote.Hole.Carrier.shown
greatest_case = refl
