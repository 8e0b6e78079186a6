use Rattle.std.proofs.Common.{◌≡◌, drop, length}
use Rattle.wasm_execution.specs.Starts.{put_segments}
use Rattle.wasm_starts.proofs.stores.first_memory.Given as goal

abbrev pub invariant-loop-s : goal.invariant-loop-s
invariant-loop-s l = record {
  put : put_segments l.globals (drop l.s-index l.segments) l.memory ≡ put_segments l.globals l.segments l.initial.memory;
  count : length l.memory ≡ length l.initial.memory;
}
