use Rattle.std.proofs.Common.{◌≡◌, take}
use Rattle.wasm_contexts.proofs.functions.copy_types.Given as goal

abbrev pub invariant-loop-f : goal.invariant-loop-f
invariant-loop-f l = l.copied ≡ take l.f-index l.types
