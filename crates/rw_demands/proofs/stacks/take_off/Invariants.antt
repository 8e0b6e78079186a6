-- So many were taken.
use Rattle.std.proofs.Common.{◌≡◌, drop}
use Rattle.rw_demands.proofs.stacks.take_off.Given as goal

abbrev pub invariant-loop-taken : goal.invariant-loop-taken
invariant-loop-taken l = record { operands : l.s.operands ≡ drop l._taken l.initial.s.operands; spare : l.s.spare ≡ l.initial.s.spare }
