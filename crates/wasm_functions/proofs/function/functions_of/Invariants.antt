use Rattle.wasm_functions.specs.Functions.{AreFunctions}
use Rattle.wasm_functions.proofs.Numbers.{all_before}
use Rattle.wasm_functions.proofs.function.functions_of.Given as goal

abbrev pub invariant-loop-k : goal.invariant-loop-k
invariant-loop-k l = AreFunctions l.valid (all_before l.valid l.k) l.functions.items
