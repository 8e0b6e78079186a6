-- Rows of what modules say, computed.
use Rattle.std.proofs.Common.{refl}
use Rattle.wasm_ast.specs.declared.instructions.WInstr.{out-WInstr}
use Rattle.wasm_execution.specs.EventRows.{AllocatorsTold, OthersNotTold, ArgumentKept, StopTold}

pub allocators-told : AllocatorsTold
unfolding out-WInstr denote.Hole.Carrier.out
allocators-told = (_, refl, refl)

pub others-not-told : OthersNotTold
unfolding out-WInstr denote.Hole.Carrier.out
others-not-told = (_, refl, refl)

pub argument-kept : ArgumentKept
unfolding out-WInstr denote.Hole.Carrier.out
argument-kept = (_, refl, refl, refl)

pub stop-told : StopTold
unfolding out-WInstr denote.Hole.Carrier.out
stop-told = (_, refl, refl)
