-- What was sought among all arguments is what is sought among those that are left.
use Rattle.std.proofs.Common.{◌≤◌, length}
use Rattle.rw_substitution.proofs.Among.{LocationLeft}
use Rattle.rw_substitution.proofs.arguments.location_among.Given as goal

abbrev pub invariant-loop-at : goal.invariant-loop-at
invariant-loop-at l = (l.at ≤ length l.args) × LocationLeft l.args l.n l.at l.further

abbrev pub decreases-loop-at : goal.decreases-loop-at
decreases-loop-at l = l.at
