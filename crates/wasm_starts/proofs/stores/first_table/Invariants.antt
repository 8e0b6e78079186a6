use Rattle.std.proofs.Common.{◌≡◌, drop, length}
use Rattle.wasm_execution.specs.Starts.{put_elements}
use Rattle.wasm_starts.proofs.stores.first_table.Given as goal

abbrev pub invariant-loop-s : goal.invariant-loop-s
invariant-loop-s l = record {
  put : put_elements l.globals (drop l.s-index l.elements) l.table.items ≡ put_elements l.globals l.elements l.initial.table.items;
  count : length l.table.items ≡ length l.initial.table.items;
}
