-- The slots that were made and those still to be made are all, and the first type that is too large is left.
use Rattle.rich_types.specs.Scopes.{scope_of}
use Rattle.rw_struct_cells.proofs.SlotsMade.{SlotsLeft}
use Rattle.rw_struct_cells.proofs.slots.slots_for.Given as goal

abbrev pub invariant-loop-i : goal.invariant-loop-i
invariant-loop-i l = SlotsLeft (scope_of l.c.binders) l.fields l.sizes l.i l.slots
