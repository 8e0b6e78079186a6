-- The loop has compared the lists as far as it has come.
use Rattle.std.proofs.Common.{◌≡◌, take, length}
use Rattle.rw_copy.proofs.comparison.same_binders.Given as goal

abbrev pub invariant-loop-x : goal.invariant-loop-x
invariant-loop-x l = take (length l.yielded) l.a ≡ take (length l.yielded) l.b
