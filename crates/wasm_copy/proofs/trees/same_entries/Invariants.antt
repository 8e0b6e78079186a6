-- The loop has compared the lists as far as it has come.
use Rattle.std.proofs.Common.{◌≡◌, take, length}
use Rattle.wasm_copy.proofs.trees.same_entries.Given as goal

abbrev pub invariant-loop-x : goal.invariant-loop-x
invariant-loop-x g l = take (length l.yielded) l.a ≡ take (length l.yielded) l.b
