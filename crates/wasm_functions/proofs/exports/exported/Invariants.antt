use Rattle.std.proofs.Common.{◌≡◌, drop}
use Rattle.wasm_execution.specs.Environments.{exported}
use Rattle.wasm_functions.specs.Functions.{is_of}
use Rattle.wasm_functions.proofs.exports.exported.Given as goal

abbrev pub invariant-loop-export : goal.invariant-loop-export
invariant-loop-export l = exported (is_of l.kind) l.name l.exports ≡ exported (is_of l.kind) l.name (drop l.export-index l.exports)
