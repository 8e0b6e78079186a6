-- Rows of calls through a table, computed.
use Rattle.std.proofs.Common.{refl}
use Rattle.wasm_ast.specs.declared.instructions.WInstr.{out-WInstr}
use Rattle.wasm_execution.specs.CallRows.{SameTypeTakes, ArgumentTakes, PrintTakes, IndirectTraps}

pub same-type-takes : SameTypeTakes
unfolding out-WInstr denote.Hole.Carrier.out
same-type-takes = (record { before = refl; after = refl }, record { before = refl; after = refl })

pub argument-takes : ArgumentTakes
unfolding out-WInstr denote.Hole.Carrier.out
argument-takes = record { before = refl; after = refl }

pub print-takes : PrintTakes
unfolding out-WInstr denote.Hole.Carrier.out
print-takes = record { before = refl; after = refl }

pub indirect-traps : IndirectTraps
unfolding out-WInstr denote.Hole.Carrier.out
indirect-traps = (record { before = refl; after = refl }, record { before = refl; after = refl }, record { before = refl; after = refl }, record { before = refl; after = refl })
