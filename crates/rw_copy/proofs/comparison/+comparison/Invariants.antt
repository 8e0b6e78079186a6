-- The loops have compared the lists as far as they have come.
use Rattle.std.proofs.Common.{◌≡◌, take, length}
use Rattle.rw_copy.proofs.comparison.+comparison.Given as goal

abbrev pub invariant-same_types-loop-x : goal.invariant-same_types-loop-x
invariant-same_types-loop-x l = take (length l.yielded) l.a ≡ take (length l.yielded) l.b

abbrev pub invariant-same_slots-loop-x : goal.invariant-same_slots-loop-x
invariant-same_slots-loop-x l = take (length l.yielded) l.a ≡ take (length l.yielded) l.b
