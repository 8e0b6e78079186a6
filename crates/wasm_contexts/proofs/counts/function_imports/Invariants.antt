use Rattle.std.proofs.Common.{◌≡◌, ◌≤◌, length, take}
use Rattle.wasm_typing.specs.Contexts.{imported_functions}
use Rattle.wasm_contexts.proofs.counts.function_imports.Given as goal

abbrev pub invariant-loop-import : goal.invariant-loop-import
invariant-loop-import l = record {
  counted : l.count ≡ length (imported_functions l.types (take l.import-index l.imports));
  few : l.count ≤ l.import-index;
}
