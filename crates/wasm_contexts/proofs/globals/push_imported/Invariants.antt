use Rattle.std.proofs.Common.{◌≡◌, ◌++◌, take}
use Rattle.wasm_typing.specs.Contexts.{imported_globals}
use Rattle.wasm_contexts.proofs.globals.push_imported.Given as goal

abbrev pub invariant-loop-import : goal.invariant-loop-import
invariant-loop-import l = l.globals ≡ l.initial.globals ++ imported_globals (take l.import-index l.imports)
