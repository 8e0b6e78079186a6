-- The types that are left are parts exactly where all are, and so with slots.
use Rattle.std.proofs.Common.{drop}
use Rattle.std.specs.Prelude.{◌↔◌}
use Rattle.rich_types.specs.WellFormed.{AreParts, AreSlots}
use Rattle.rw_quals_sizes.specs.Chains.{scope_seen}
use Rattle.rw_quals_sizes.proofs.forms.+forms.Given as goal

abbrev pub invariant-are_parts-loop-t : goal.invariant-are_parts-loop-t
invariant-are_parts-loop-t l = AreParts (scope_seen l.chain) l.most (drop l.t-index l.types) ↔ AreParts (scope_seen l.chain) l.most l.types

abbrev pub invariant-are_slots-loop-slot : goal.invariant-are_slots-loop-slot
invariant-are_slots-loop-slot l = AreSlots (scope_seen l.chain) (drop l.slot-index l.slots) ↔ AreSlots (scope_seen l.chain) l.slots
