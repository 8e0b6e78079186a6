-- The slots before this one were put.
use Rattle.std.proofs.Common.{◌≡◌, ◌++◌, take}
use Rattle.rw_struct_looks.proofs.slots.push_slots.Given as goal

abbrev pub invariant-loop-slot : goal.invariant-loop-slot
invariant-loop-slot l = l.made ≡ l.initial.made ++ take l.slot-index l.slots
