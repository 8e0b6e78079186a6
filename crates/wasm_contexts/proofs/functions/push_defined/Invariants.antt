use Rattle.std.proofs.Common.{◌≡◌, ◌++◌, take}
use Rattle.std.specs.Prelude.{flat_map, option_to_list, slice_get}
use Rattle.wasm_contexts.proofs.functions.push_defined.Given as goal

abbrev pub invariant-loop-n : goal.invariant-loop-n
invariant-loop-n l = l.functions ≡ l.initial.functions ++ flat_map (λ n. option_to_list (slice_get l.types n)) (take l.n-index l.funcs)
