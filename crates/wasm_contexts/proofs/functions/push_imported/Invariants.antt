use Rattle.std.proofs.Common.{◌≡◌, ◌++◌, take}
use Rattle.wasm_typing.specs.Contexts.{imported_functions}
use Rattle.wasm_contexts.proofs.functions.push_imported.Given as goal

abbrev pub invariant-loop-import : goal.invariant-loop-import
invariant-loop-import l = l.functions ≡ l.initial.functions ++ imported_functions l.types (take l.import-index l.imports)
