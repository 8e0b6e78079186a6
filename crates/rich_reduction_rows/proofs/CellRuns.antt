-- The rows, computed.
use Rattle.std.proofs.Common.{refl}
use Rattle.rw_types.specs.declared.types.Mem.TheVariants.{L, U}
use Rattle.rich_reduction_rows.specs.CellRows.{ApartTakes, IndexLeavesOperands, IndexSays, IndexTraps, LinearApartSays, MixedStopsShort, SettingSays, SettingTakes, SharingTakes, SplittingSays, SplittingTakes, SwappingLeavesNone, SwappingSays, SwappingTakes, UnrestrictedApartSays}

pub setting : SettingTakes
unfolding Rattle.rw_types.specs.declared.instrs.Instr.TheBlock.shape-the_row-Instr-0 Rattle.rw_types.specs.declared.instrs.Instr.TheBlock.hidden-the_row-Instr-0 Rattle.rw_types.specs.declared.instrs.Instr.TheBlock.shape-the_row-Instr-VariantCase-1-1-1 Rattle.rw_types.specs.declared.instrs.Instr.TheBlock.hidden-the_row-Instr-VariantCase-1-1-1 Rattle.rw_types.specs.declared.types.Heap.TheBlock.hidden-the_row-Ty-1 denote.Hole.Carrier.hidden denote.Hole.Carrier.shown
setting = record { before = refl; after = refl }

pub setting_says : SettingSays
unfolding Rattle.rw_types.specs.declared.instrs.Instr.TheBlock.shape-the_row-Instr-0 Rattle.rw_types.specs.declared.instrs.Instr.TheBlock.hidden-the_row-Instr-0 Rattle.rw_types.specs.declared.instrs.Instr.TheBlock.shape-the_row-Instr-VariantCase-1-1-1 Rattle.rw_types.specs.declared.instrs.Instr.TheBlock.hidden-the_row-Instr-VariantCase-1-1-1 Rattle.rw_types.specs.declared.types.Heap.TheBlock.hidden-the_row-Ty-1 denote.Hole.Carrier.hidden denote.Hole.Carrier.shown
setting_says = refl

pub splitting : SplittingTakes
unfolding Rattle.rw_types.specs.declared.instrs.Instr.TheBlock.shape-the_row-Instr-0 Rattle.rw_types.specs.declared.instrs.Instr.TheBlock.hidden-the_row-Instr-0 Rattle.rw_types.specs.declared.instrs.Instr.TheBlock.shape-the_row-Instr-VariantCase-1-1-1 Rattle.rw_types.specs.declared.instrs.Instr.TheBlock.hidden-the_row-Instr-VariantCase-1-1-1 Rattle.rw_types.specs.declared.types.Heap.TheBlock.hidden-the_row-Ty-1 denote.Hole.Carrier.hidden denote.Hole.Carrier.shown
splitting = record { before = refl; after = refl }

pub splitting_says : SplittingSays
unfolding Rattle.rw_types.specs.declared.instrs.Instr.TheBlock.shape-the_row-Instr-0 Rattle.rw_types.specs.declared.instrs.Instr.TheBlock.hidden-the_row-Instr-0 Rattle.rw_types.specs.declared.instrs.Instr.TheBlock.shape-the_row-Instr-VariantCase-1-1-1 Rattle.rw_types.specs.declared.instrs.Instr.TheBlock.hidden-the_row-Instr-VariantCase-1-1-1 Rattle.rw_types.specs.declared.types.Heap.TheBlock.hidden-the_row-Ty-1 denote.Hole.Carrier.hidden denote.Hole.Carrier.shown
splitting_says = refl

pub mixed : MixedStopsShort
unfolding Rattle.rw_types.specs.declared.instrs.Instr.TheBlock.shape-the_row-Instr-0 Rattle.rw_types.specs.declared.instrs.Instr.TheBlock.hidden-the_row-Instr-0 Rattle.rw_types.specs.declared.instrs.Instr.TheBlock.shape-the_row-Instr-VariantCase-1-1-1 Rattle.rw_types.specs.declared.instrs.Instr.TheBlock.hidden-the_row-Instr-VariantCase-1-1-1 Rattle.rw_types.specs.declared.types.Heap.TheBlock.hidden-the_row-Ty-1 denote.Hole.Carrier.hidden denote.Hole.Carrier.shown
mixed = record { before = refl; after = refl }

pub sharing : SharingTakes
unfolding Rattle.rw_types.specs.declared.instrs.Instr.TheBlock.shape-the_row-Instr-0 Rattle.rw_types.specs.declared.instrs.Instr.TheBlock.hidden-the_row-Instr-0 Rattle.rw_types.specs.declared.instrs.Instr.TheBlock.shape-the_row-Instr-VariantCase-1-1-1 Rattle.rw_types.specs.declared.instrs.Instr.TheBlock.hidden-the_row-Instr-VariantCase-1-1-1 Rattle.rw_types.specs.declared.types.Heap.TheBlock.hidden-the_row-Ty-1 denote.Hole.Carrier.hidden denote.Hole.Carrier.shown
sharing = record { before = refl; after = refl }

pub index : IndexTraps
unfolding Rattle.rw_types.specs.declared.instrs.Instr.TheBlock.shape-the_row-Instr-0 Rattle.rw_types.specs.declared.instrs.Instr.TheBlock.hidden-the_row-Instr-0 Rattle.rw_types.specs.declared.instrs.Instr.TheBlock.shape-the_row-Instr-VariantCase-1-1-1 Rattle.rw_types.specs.declared.instrs.Instr.TheBlock.hidden-the_row-Instr-VariantCase-1-1-1 Rattle.rw_types.specs.declared.types.Heap.TheBlock.hidden-the_row-Ty-1 denote.Hole.Carrier.hidden denote.Hole.Carrier.shown
index = record { before = refl; after = refl }

pub index_says : IndexSays
unfolding Rattle.rw_types.specs.declared.instrs.Instr.TheBlock.shape-the_row-Instr-0 Rattle.rw_types.specs.declared.instrs.Instr.TheBlock.hidden-the_row-Instr-0 Rattle.rw_types.specs.declared.instrs.Instr.TheBlock.shape-the_row-Instr-VariantCase-1-1-1 Rattle.rw_types.specs.declared.instrs.Instr.TheBlock.hidden-the_row-Instr-VariantCase-1-1-1 Rattle.rw_types.specs.declared.types.Heap.TheBlock.hidden-the_row-Ty-1 denote.Hole.Carrier.hidden denote.Hole.Carrier.shown
index_says = refl

pub index_operands : IndexLeavesOperands
unfolding Rattle.rw_types.specs.declared.instrs.Instr.TheBlock.shape-the_row-Instr-0 Rattle.rw_types.specs.declared.instrs.Instr.TheBlock.hidden-the_row-Instr-0 Rattle.rw_types.specs.declared.instrs.Instr.TheBlock.shape-the_row-Instr-VariantCase-1-1-1 Rattle.rw_types.specs.declared.instrs.Instr.TheBlock.hidden-the_row-Instr-VariantCase-1-1-1 Rattle.rw_types.specs.declared.types.Heap.TheBlock.hidden-the_row-Ty-1 denote.Hole.Carrier.hidden denote.Hole.Carrier.shown
index_operands = refl

pub swapping : SwappingTakes
unfolding Rattle.rw_types.specs.declared.instrs.Instr.TheBlock.shape-the_row-Instr-0 Rattle.rw_types.specs.declared.instrs.Instr.TheBlock.hidden-the_row-Instr-0 Rattle.rw_types.specs.declared.instrs.Instr.TheBlock.shape-the_row-Instr-VariantCase-1-1-1 Rattle.rw_types.specs.declared.instrs.Instr.TheBlock.hidden-the_row-Instr-VariantCase-1-1-1 Rattle.rw_types.specs.declared.types.Heap.TheBlock.hidden-the_row-Ty-1 denote.Hole.Carrier.hidden denote.Hole.Carrier.shown
swapping = record { before = refl; after = refl }

pub swapping_says : SwappingSays
unfolding Rattle.rw_types.specs.declared.instrs.Instr.TheBlock.shape-the_row-Instr-0 Rattle.rw_types.specs.declared.instrs.Instr.TheBlock.hidden-the_row-Instr-0 Rattle.rw_types.specs.declared.instrs.Instr.TheBlock.shape-the_row-Instr-VariantCase-1-1-1 Rattle.rw_types.specs.declared.instrs.Instr.TheBlock.hidden-the_row-Instr-VariantCase-1-1-1 Rattle.rw_types.specs.declared.types.Heap.TheBlock.hidden-the_row-Ty-1 denote.Hole.Carrier.hidden denote.Hole.Carrier.shown
swapping_says = refl

pub swapping_leaves : SwappingLeavesNone
unfolding Rattle.rw_types.specs.declared.instrs.Instr.TheBlock.shape-the_row-Instr-0 Rattle.rw_types.specs.declared.instrs.Instr.TheBlock.hidden-the_row-Instr-0 Rattle.rw_types.specs.declared.instrs.Instr.TheBlock.shape-the_row-Instr-VariantCase-1-1-1 Rattle.rw_types.specs.declared.instrs.Instr.TheBlock.hidden-the_row-Instr-VariantCase-1-1-1 Rattle.rw_types.specs.declared.types.Heap.TheBlock.hidden-the_row-Ty-1 denote.Hole.Carrier.hidden denote.Hole.Carrier.shown
swapping_leaves = refl

pub apart : ApartTakes L
unfolding Rattle.rw_types.specs.declared.instrs.Instr.TheBlock.shape-the_row-Instr-0 Rattle.rw_types.specs.declared.instrs.Instr.TheBlock.hidden-the_row-Instr-0 Rattle.rw_types.specs.declared.instrs.Instr.TheBlock.shape-the_row-Instr-VariantCase-1-1-1 Rattle.rw_types.specs.declared.instrs.Instr.TheBlock.hidden-the_row-Instr-VariantCase-1-1-1 Rattle.rw_types.specs.declared.types.Heap.TheBlock.hidden-the_row-Ty-1 denote.Hole.Carrier.hidden denote.Hole.Carrier.shown
apart = record { before = refl; after = refl }

pub apart_says : LinearApartSays
unfolding Rattle.rw_types.specs.declared.instrs.Instr.TheBlock.shape-the_row-Instr-0 Rattle.rw_types.specs.declared.instrs.Instr.TheBlock.hidden-the_row-Instr-0 Rattle.rw_types.specs.declared.instrs.Instr.TheBlock.shape-the_row-Instr-VariantCase-1-1-1 Rattle.rw_types.specs.declared.instrs.Instr.TheBlock.hidden-the_row-Instr-VariantCase-1-1-1 Rattle.rw_types.specs.declared.types.Heap.TheBlock.hidden-the_row-Ty-1 denote.Hole.Carrier.hidden denote.Hole.Carrier.shown
apart_says = refl

pub copied : ApartTakes U
unfolding Rattle.rw_types.specs.declared.instrs.Instr.TheBlock.shape-the_row-Instr-0 Rattle.rw_types.specs.declared.instrs.Instr.TheBlock.hidden-the_row-Instr-0 Rattle.rw_types.specs.declared.instrs.Instr.TheBlock.shape-the_row-Instr-VariantCase-1-1-1 Rattle.rw_types.specs.declared.instrs.Instr.TheBlock.hidden-the_row-Instr-VariantCase-1-1-1 Rattle.rw_types.specs.declared.types.Heap.TheBlock.hidden-the_row-Ty-1 denote.Hole.Carrier.hidden denote.Hole.Carrier.shown
copied = record { before = refl; after = refl }

pub copied_says : UnrestrictedApartSays
unfolding Rattle.rw_types.specs.declared.instrs.Instr.TheBlock.shape-the_row-Instr-0 Rattle.rw_types.specs.declared.instrs.Instr.TheBlock.hidden-the_row-Instr-0 Rattle.rw_types.specs.declared.instrs.Instr.TheBlock.shape-the_row-Instr-VariantCase-1-1-1 Rattle.rw_types.specs.declared.instrs.Instr.TheBlock.hidden-the_row-Instr-VariantCase-1-1-1 Rattle.rw_types.specs.declared.types.Heap.TheBlock.hidden-the_row-Ty-1 denote.Hole.Carrier.hidden denote.Hole.Carrier.shown
copied_says = refl
