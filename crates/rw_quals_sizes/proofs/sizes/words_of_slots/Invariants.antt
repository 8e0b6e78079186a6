-- The total and the words of the slots that are left are, as they are told, those of all slots.
use Rattle.std.proofs.Common.{◌≡◌, ◌+◌, ◌≤◌, drop}
use Rattle.rich_types.specs.Sizes.{slot_words}
use Rattle.rw_quals_sizes.specs.Capped.{capped}
use Rattle.rw_quals_sizes.proofs.sizes.words_of_slots.Given as goal

abbrev pub invariant-loop-slot : goal.invariant-loop-slot
invariant-loop-slot l = (l.total ≤ 10001) × (capped (l.total + slot_words (drop l.slot-index l.slots)) ≡ capped (slot_words l.slots))
