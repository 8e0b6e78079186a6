-- The rows, computed.
use Rattle.std.proofs.Common.{refl}
use Rattle.lowering_rows_worked.specs.GlobalsRows.{CallingByCodeLowered, CodeOfItselfLowered, EndedInitialiserLowered, GlobalOfTwoWordsLowered, InitialiserWithCellsLowered}

pub calling_by_code : CallingByCodeLowered
unfolding Rattle.rw_types.specs.declared.instrs.Instr.TheBlock.shape-the_row-Instr-0 Rattle.rw_types.specs.declared.instrs.Instr.TheBlock.hidden-the_row-Instr-0 Rattle.rw_types.specs.declared.instrs.Instr.TheBlock.shape-the_row-Instr-VariantCase-1-1-1 Rattle.rw_types.specs.declared.instrs.Instr.TheBlock.hidden-the_row-Instr-VariantCase-1-1-1 Rattle.rw_types.specs.declared.types.Heap.TheBlock.hidden-the_row-Ty-1 Rattle.rw_types.specs.declared.types.Heap.TheBlock.hidden-the_row-Ty-2 Rattle.rw_types.specs.declared.types.Heap.TheBlock.hidden-the_row-Slot-0 Rattle.rw_types.specs.declared.types.Heap.TheBlock.hidden-the_row-FunType-3 denote.Hole.Carrier.hidden denote.Hole.Carrier.shown
calling_by_code = refl

pub ended_initialiser : EndedInitialiserLowered
unfolding Rattle.rw_types.specs.declared.instrs.Instr.TheBlock.shape-the_row-Instr-0 Rattle.rw_types.specs.declared.instrs.Instr.TheBlock.hidden-the_row-Instr-0 Rattle.rw_types.specs.declared.instrs.Instr.TheBlock.shape-the_row-Instr-VariantCase-1-1-1 Rattle.rw_types.specs.declared.instrs.Instr.TheBlock.hidden-the_row-Instr-VariantCase-1-1-1 Rattle.rw_types.specs.declared.types.Heap.TheBlock.hidden-the_row-Ty-1 Rattle.rw_types.specs.declared.types.Heap.TheBlock.hidden-the_row-Ty-2 Rattle.rw_types.specs.declared.types.Heap.TheBlock.hidden-the_row-Slot-0 Rattle.rw_types.specs.declared.types.Heap.TheBlock.hidden-the_row-FunType-3 denote.Hole.Carrier.hidden denote.Hole.Carrier.shown
ended_initialiser = refl

pub global_of_two_words : GlobalOfTwoWordsLowered
unfolding Rattle.rw_types.specs.declared.instrs.Instr.TheBlock.shape-the_row-Instr-0 Rattle.rw_types.specs.declared.instrs.Instr.TheBlock.hidden-the_row-Instr-0 Rattle.rw_types.specs.declared.instrs.Instr.TheBlock.shape-the_row-Instr-VariantCase-1-1-1 Rattle.rw_types.specs.declared.instrs.Instr.TheBlock.hidden-the_row-Instr-VariantCase-1-1-1 Rattle.rw_types.specs.declared.types.Heap.TheBlock.hidden-the_row-Ty-1 Rattle.rw_types.specs.declared.types.Heap.TheBlock.hidden-the_row-Ty-2 Rattle.rw_types.specs.declared.types.Heap.TheBlock.hidden-the_row-Slot-0 Rattle.rw_types.specs.declared.types.Heap.TheBlock.hidden-the_row-FunType-3 denote.Hole.Carrier.hidden denote.Hole.Carrier.shown
global_of_two_words = refl

pub initialiser_with_cells : InitialiserWithCellsLowered
unfolding Rattle.rw_types.specs.declared.instrs.Instr.TheBlock.shape-the_row-Instr-0 Rattle.rw_types.specs.declared.instrs.Instr.TheBlock.hidden-the_row-Instr-0 Rattle.rw_types.specs.declared.instrs.Instr.TheBlock.shape-the_row-Instr-VariantCase-1-1-1 Rattle.rw_types.specs.declared.instrs.Instr.TheBlock.hidden-the_row-Instr-VariantCase-1-1-1 Rattle.rw_types.specs.declared.types.Heap.TheBlock.hidden-the_row-Ty-1 Rattle.rw_types.specs.declared.types.Heap.TheBlock.hidden-the_row-Ty-2 Rattle.rw_types.specs.declared.types.Heap.TheBlock.hidden-the_row-Slot-0 Rattle.rw_types.specs.declared.types.Heap.TheBlock.hidden-the_row-FunType-3 denote.Hole.Carrier.hidden denote.Hole.Carrier.shown
initialiser_with_cells = refl

pub code_of_itself : CodeOfItselfLowered
unfolding Rattle.rw_types.specs.declared.instrs.Instr.TheBlock.shape-the_row-Instr-0 Rattle.rw_types.specs.declared.instrs.Instr.TheBlock.hidden-the_row-Instr-0 Rattle.rw_types.specs.declared.instrs.Instr.TheBlock.shape-the_row-Instr-VariantCase-1-1-1 Rattle.rw_types.specs.declared.instrs.Instr.TheBlock.hidden-the_row-Instr-VariantCase-1-1-1 Rattle.rw_types.specs.declared.types.Heap.TheBlock.hidden-the_row-Ty-1 Rattle.rw_types.specs.declared.types.Heap.TheBlock.hidden-the_row-Ty-2 Rattle.rw_types.specs.declared.types.Heap.TheBlock.hidden-the_row-Slot-0 Rattle.rw_types.specs.declared.types.Heap.TheBlock.hidden-the_row-FunType-3 denote.Hole.Carrier.hidden denote.Hole.Carrier.shown
code_of_itself = refl
