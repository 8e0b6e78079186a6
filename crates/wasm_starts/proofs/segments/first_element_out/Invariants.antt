use Rattle.wasm_execution.specs.Starts.{fits_table}
use Rattle.wasm_starts.proofs.Failing.{Passed}
use Rattle.wasm_starts.proofs.segments.first_element_out.Given as goal

abbrev pub invariant-loop-at : goal.invariant-loop-at
invariant-loop-at l = Passed (fits_table l.globals l.entries) 0 l.elements l.at
