-- The loops have copied the lists as far as they have come.
use Rattle.std.proofs.Common.{◌≡◌, take}
use Rattle.rw_copy.proofs.copies.+copies.Given as goal

abbrev pub invariant-copy_types-loop-t : goal.invariant-copy_types-loop-t
invariant-copy_types-loop-t l = l.copied ≡ take l.t-index l.types

abbrev pub invariant-copy_slots-loop-slot : goal.invariant-copy_slots-loop-slot
invariant-copy_slots-loop-slot l = l.copied ≡ take l.slot-index l.slots
