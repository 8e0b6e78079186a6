-- The first one that is left is the first one.
use Rattle.std.proofs.Common.{◌≡◌, drop}
use Rattle.rich_types.specs.Scopes.{scope_of}
use Rattle.rich_rules.specs.Structs.{slot_types}
use Rattle.rich_rules.specs.Takers.{first_held}
use Rattle.rw_type_tests.proofs.lists.first_held.Given as goal

abbrev pub invariant-loop-slot : goal.invariant-loop-slot
invariant-loop-slot l = first_held (scope_of l.c.binders) (slot_types (drop l.slot-index l.slots)) ≡ first_held (scope_of l.c.binders) (slot_types l.slots)
