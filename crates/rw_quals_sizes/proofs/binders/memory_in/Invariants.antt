-- What was sought among all binders is what is sought among those that are left.
use Rattle.std.proofs.Common.{◌≡◌, ◌≤◌, length, take}
use Rattle.rich_types.specs.Scopes.{Scope, within, memory_of}
use Rattle.rw_quals_sizes.proofs.binders.memory_in.Given as goal

abbrev pub invariant-loop-at : goal.invariant-loop-at
invariant-loop-at l = (l.at ≤ length l.binders) × ((c : Scope) → memory_of (within l.binders c) l.n ≡ memory_of (within (take l.at l.binders) c) l.further)

abbrev pub decreases-loop-at : goal.decreases-loop-at
decreases-loop-at l = l.at
