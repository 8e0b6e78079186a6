-- Rows over lists, branches and numbers, computed.
use Rattle.std.proofs.Common.{refl}
use Rattle.wasm_ast.specs.declared.instructions.WInstr.{out-WInstr}
use Rattle.wasm_ast.specs.declared.instructions.WInstr.TheBlock
use Rattle.wasm_execution.specs.ControlRows.{AloneTakes, BranchTakes, BranchIfTakes, LoopTakes, EndlessGoes, TableTakes, OneArmTakes, EmptyElseTakes, ReturnTakes, SelectTakes, DivisionsTrap, StuckWithout}

pub alone-takes : AloneTakes
unfolding out-WInstr denote.Hole.Carrier.out TheBlock.shape-the_row-WInstr-0 TheBlock.shown-the_row-WInstr-0 TheBlock.hidden-the_row-WInstr-0 denote.Hole.Carrier.hidden denote.Hole.Carrier.shown
alone-takes = record { before = refl; after = refl }

pub branch-takes : BranchTakes
unfolding out-WInstr denote.Hole.Carrier.out TheBlock.shape-the_row-WInstr-0 TheBlock.shown-the_row-WInstr-0 TheBlock.hidden-the_row-WInstr-0 denote.Hole.Carrier.hidden denote.Hole.Carrier.shown
branch-takes = record { before = refl; after = refl }

pub branch-if-takes : BranchIfTakes
unfolding out-WInstr denote.Hole.Carrier.out TheBlock.shape-the_row-WInstr-0 TheBlock.shown-the_row-WInstr-0 TheBlock.hidden-the_row-WInstr-0 denote.Hole.Carrier.hidden denote.Hole.Carrier.shown
branch-if-takes = record { before = refl; after = refl }

pub loop-takes : LoopTakes
unfolding out-WInstr denote.Hole.Carrier.out TheBlock.shape-the_row-WInstr-0 TheBlock.shown-the_row-WInstr-0 TheBlock.hidden-the_row-WInstr-0 denote.Hole.Carrier.hidden denote.Hole.Carrier.shown
loop-takes = record { before = refl; after = refl }

pub endless-goes : EndlessGoes
unfolding out-WInstr denote.Hole.Carrier.out TheBlock.shape-the_row-WInstr-0 TheBlock.shown-the_row-WInstr-0 TheBlock.hidden-the_row-WInstr-0 denote.Hole.Carrier.hidden denote.Hole.Carrier.shown
endless-goes = refl

pub table-takes : TableTakes
unfolding out-WInstr denote.Hole.Carrier.out TheBlock.shape-the_row-WInstr-0 TheBlock.shown-the_row-WInstr-0 TheBlock.hidden-the_row-WInstr-0 denote.Hole.Carrier.hidden denote.Hole.Carrier.shown
table-takes = (record { before = refl; after = refl }, record { before = refl; after = refl }, record { before = refl; after = refl }, record { before = refl; after = refl })

pub one-arm-takes : OneArmTakes
unfolding out-WInstr denote.Hole.Carrier.out TheBlock.shape-the_row-WInstr-0 TheBlock.shown-the_row-WInstr-0 TheBlock.hidden-the_row-WInstr-0 denote.Hole.Carrier.hidden denote.Hole.Carrier.shown
one-arm-takes = (record { before = refl; after = refl }, record { before = refl; after = refl })

pub empty-else-takes : EmptyElseTakes
unfolding out-WInstr denote.Hole.Carrier.out TheBlock.shape-the_row-WInstr-0 TheBlock.shown-the_row-WInstr-0 TheBlock.hidden-the_row-WInstr-0 denote.Hole.Carrier.hidden denote.Hole.Carrier.shown
empty-else-takes = record { before = refl; after = refl }

pub return-takes : ReturnTakes
unfolding out-WInstr denote.Hole.Carrier.out TheBlock.shape-the_row-WInstr-0 TheBlock.shown-the_row-WInstr-0 TheBlock.hidden-the_row-WInstr-0 denote.Hole.Carrier.hidden denote.Hole.Carrier.shown
return-takes = (record { before = refl; after = refl }, record { before = refl; after = refl })

pub select-takes : SelectTakes
unfolding out-WInstr denote.Hole.Carrier.out TheBlock.shape-the_row-WInstr-0 TheBlock.shown-the_row-WInstr-0 TheBlock.hidden-the_row-WInstr-0 denote.Hole.Carrier.hidden denote.Hole.Carrier.shown
select-takes = (record { before = refl; after = refl }, record { before = refl; after = refl })

pub divisions-trap : DivisionsTrap
unfolding out-WInstr denote.Hole.Carrier.out TheBlock.shape-the_row-WInstr-0 TheBlock.shown-the_row-WInstr-0 TheBlock.hidden-the_row-WInstr-0 denote.Hole.Carrier.hidden denote.Hole.Carrier.shown
divisions-trap = (record { before = refl; after = refl }, record { before = refl; after = refl })

pub stuck-without : StuckWithout
unfolding out-WInstr denote.Hole.Carrier.out TheBlock.shape-the_row-WInstr-0 TheBlock.shown-the_row-WInstr-0 TheBlock.hidden-the_row-WInstr-0 denote.Hole.Carrier.hidden denote.Hole.Carrier.shown
stuck-without = (refl, refl, refl, refl, refl, refl)
