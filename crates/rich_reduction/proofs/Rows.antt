-- The rows, computed.
use Rattle.std.proofs.Common.{refl}
use Rattle.rich_reduction.specs.Rows.{AddingTakes, DropStopsShort, DroppingTakes, GlobalsAreSet, GlobalsTake, InitialiserStopsShort, LeftOverStopsShort, PrintingTakes}

pub printing-takes : PrintingTakes
printing-takes = record { before = refl; after = refl }

pub dropping-takes : DroppingTakes
dropping-takes = record { before = refl; after = refl }

pub adding-takes : AddingTakes
adding-takes = record { before = refl; after = refl }

pub drop-stops_short : DropStopsShort
drop-stops_short = record { before = refl; after = refl }

pub left_over-stops_short : LeftOverStopsShort
left_over-stops_short = record { before = refl; after = refl }

pub globals-take : GlobalsTake
unfolding Rattle.rw_types.specs.declared.instrs.Instr.TheBlock.shape-the_row-Instr-0 Rattle.rw_types.specs.declared.instrs.Instr.TheBlock.hidden-the_row-Instr-0 denote.Hole.Carrier.hidden denote.Hole.Carrier.shown
globals-take = record { before = refl; after = refl }

pub globals-are_set : GlobalsAreSet
unfolding Rattle.rw_types.specs.declared.instrs.Instr.TheBlock.shape-the_row-Instr-0 Rattle.rw_types.specs.declared.instrs.Instr.TheBlock.hidden-the_row-Instr-0 denote.Hole.Carrier.hidden denote.Hole.Carrier.shown
globals-are_set = refl

pub initialiser-stops_short : InitialiserStopsShort
unfolding Rattle.rw_types.specs.declared.instrs.Instr.TheBlock.shape-the_row-Instr-0 Rattle.rw_types.specs.declared.instrs.Instr.TheBlock.hidden-the_row-Instr-0 denote.Hole.Carrier.hidden denote.Hole.Carrier.shown
initialiser-stops_short = record { before = refl; after = refl }
