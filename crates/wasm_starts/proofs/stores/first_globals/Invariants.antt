use Rattle.std.proofs.Common.{◌≡◌, take}
use Rattle.wasm_execution.specs.Starts.{first_globals}
use Rattle.wasm_starts.proofs.stores.first_globals.Given as goal

abbrev pub invariant-loop-global : goal.invariant-loop-global
invariant-loop-global l = l.values.items ≡ first_globals (take l.global-index l.globals)
