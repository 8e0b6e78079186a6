-- How modules start, computed.
use Rattle.std.proofs.Common.{refl}
use Rattle.wasm_ast.specs.declared.instructions.WInstr.{out-WInstr}
use Rattle.wasm_execution.specs.StartRows.{StartTakes, StartTraps, TrapCodesCount, UnknownImports, SegmentsOut, NoMains, NumberKept}

pub start-takes : StartTakes
unfolding out-WInstr denote.Hole.Carrier.out
start-takes = record { before = refl; after = refl }

pub start-traps : StartTraps
unfolding out-WInstr denote.Hole.Carrier.out
start-traps = record { before = refl; after = refl }

pub trap-codes-count : TrapCodesCount
unfolding out-WInstr denote.Hole.Carrier.out
trap-codes-count = (record { before = refl; after = refl }, record { before = refl; after = refl }, record { before = refl; after = refl }, record { before = refl; after = refl })

pub unknown-imports : UnknownImports
unfolding out-WInstr denote.Hole.Carrier.out
unknown-imports = (refl, refl, refl, refl)

pub segments-out : SegmentsOut
unfolding out-WInstr denote.Hole.Carrier.out
segments-out = (refl, refl, refl, refl, refl)

pub no-mains : NoMains
unfolding out-WInstr denote.Hole.Carrier.out
no-mains = (refl, refl, refl, refl)

pub number-kept : NumberKept
unfolding out-WInstr denote.Hole.Carrier.out
number-kept = record { before = refl; after = refl }
