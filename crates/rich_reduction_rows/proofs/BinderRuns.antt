-- The rows, computed.
use Rattle.std.proofs.Common.{refl}
use Rattle.rich_reduction_rows.specs.BinderRows.{BindingSays, BindingTakes}

pub binding : BindingTakes
unfolding Rattle.rw_types.specs.declared.instrs.Instr.TheBlock.shape-the_row-Instr-0 Rattle.rw_types.specs.declared.instrs.Instr.TheBlock.hidden-the_row-Instr-0 Rattle.rw_types.specs.declared.instrs.Instr.TheBlock.shape-the_row-Instr-VariantCase-1-1-1 Rattle.rw_types.specs.declared.instrs.Instr.TheBlock.hidden-the_row-Instr-VariantCase-1-1-1 Rattle.rw_types.specs.declared.types.Heap.TheBlock.hidden-the_row-Ty-1 denote.Hole.Carrier.hidden denote.Hole.Carrier.shown
binding = record { before = refl; after = refl }

pub binding_says : BindingSays
unfolding Rattle.rw_types.specs.declared.instrs.Instr.TheBlock.shape-the_row-Instr-0 Rattle.rw_types.specs.declared.instrs.Instr.TheBlock.hidden-the_row-Instr-0 Rattle.rw_types.specs.declared.instrs.Instr.TheBlock.shape-the_row-Instr-VariantCase-1-1-1 Rattle.rw_types.specs.declared.instrs.Instr.TheBlock.hidden-the_row-Instr-VariantCase-1-1-1 Rattle.rw_types.specs.declared.types.Heap.TheBlock.hidden-the_row-Ty-1 denote.Hole.Carrier.hidden denote.Hole.Carrier.shown
binding_says = refl
