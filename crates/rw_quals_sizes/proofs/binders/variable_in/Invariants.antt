-- What was sought among all binders is what is sought among those that are left.
use Rattle.std.proofs.Common.{◌≡◌, ◌≤◌, length, take}
use Rattle.rich_types.specs.Scopes.{Scope, within, variable_of}
use Rattle.rw_quals_sizes.proofs.binders.variable_in.Given as goal

abbrev pub invariant-loop-at : goal.invariant-loop-at
invariant-loop-at l = (l.at ≤ length l.binders) × ((c : Scope) → variable_of (within l.binders c) l.n ≡ variable_of (within (take l.at l.binders) c) l.further)

abbrev pub decreases-loop-at : goal.decreases-loop-at
decreases-loop-at l = l.at
