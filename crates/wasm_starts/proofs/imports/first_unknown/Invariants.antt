use Rattle.wasm_execution.specs.Imports.{is_print}
use Rattle.wasm_starts.proofs.Failing.{Passed}
use Rattle.wasm_starts.proofs.imports.first_unknown.Given as goal

abbrev pub invariant-loop-at : goal.invariant-loop-at
invariant-loop-at l = Passed (is_print l.types) 0 l.imports l.at
