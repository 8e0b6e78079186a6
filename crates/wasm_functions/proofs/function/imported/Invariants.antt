use Rattle.std.proofs.Common.{take}
use Rattle.wasm_execution.specs.Environments.{imported_functions}
use Rattle.wasm_functions.specs.Functions.{AreFunctions}
use Rattle.wasm_functions.proofs.function.imported.Given as goal

abbrev pub invariant-loop-import : goal.invariant-loop-import
invariant-loop-import l = AreFunctions l.m (imported_functions l.m.types (take l.import-index l.m.imports)) l.functions.items
