use Rattle.wasm_execution.specs.Starts.{fits_memory}
use Rattle.wasm_starts.proofs.Failing.{Passed}
use Rattle.wasm_starts.proofs.segments.first_segment_out.Given as goal

abbrev pub invariant-loop-at : goal.invariant-loop-at
invariant-loop-at l = Passed (fits_memory l.globals l.bytes) l.from l.segments l.at
