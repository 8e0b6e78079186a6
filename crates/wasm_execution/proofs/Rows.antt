-- The rows, computed.
use Rattle.std.proofs.Common.{refl}
use Rattle.wasm_ast.specs.declared.instructions.WInstr.{out-WInstr}
use Rattle.wasm_execution.specs.Rows.{AddingTakes, DroppingTakes, ExhaustedTakes, PrintingTakes, StartingTakes}

pub printing-takes : PrintingTakes
unfolding out-WInstr denote.Hole.Carrier.out
printing-takes = record { before = refl; after = refl }

pub starting-takes : StartingTakes
unfolding out-WInstr denote.Hole.Carrier.out
starting-takes = record { before = refl; after = refl }

pub dropping-takes : DroppingTakes
unfolding out-WInstr denote.Hole.Carrier.out
dropping-takes = record { before = refl; after = refl }

pub adding-takes : AddingTakes
unfolding out-WInstr denote.Hole.Carrier.out
adding-takes = record { before = refl; after = refl }

pub exhausted-takes : ExhaustedTakes
unfolding out-WInstr denote.Hole.Carrier.out
exhausted-takes = record { before = refl; after = refl }
