use Rattle.std.proofs.Common.{◌≡◌, ◌≤◌, take}
use Rattle.wasm_typing.specs.Contexts.{imported_memories}
use Rattle.wasm_contexts.proofs.counts.imported_memories.Given as goal

abbrev pub invariant-loop-import : goal.invariant-loop-import
invariant-loop-import l = record {
  counted : l.count ≡ imported_memories (take l.import-index l.imports);
  few : l.count ≤ l.import-index;
}
