-- What was made, and what is still to be made, are the whole.
use Rattle.std.proofs.Common.{◌≡◌, ◌++◌, drop}
use Rattle.rich_types.specs.Walks.{walk_list, walk_slots}
use Rattle.rw_substitution.proofs.walk.+walks.Given as goal

abbrev pub invariant-walk_types-loop-t : goal.invariant-walk_types-loop-t
invariant-walk_types-loop-t g l = l.walked ++ walk_list (g.C.Change.leaves l.change) l.depth (drop l.t-index l.types) ≡ walk_list (g.C.Change.leaves l.change) l.depth l.types

abbrev pub invariant-walk_slots-loop-slot : goal.invariant-walk_slots-loop-slot
invariant-walk_slots-loop-slot g l = l.walked ++ walk_slots (g.C.Change.leaves l.change) l.depth (drop l.slot-index l.slots) ≡ walk_slots (g.C.Change.leaves l.change) l.depth l.slots
