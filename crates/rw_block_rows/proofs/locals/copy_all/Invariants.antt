-- The types before this one were copied.
use Rattle.std.proofs.Common.{◌≡◌, take}
use Rattle.rw_block_rows.proofs.locals.copy_all.Given as goal

abbrev pub invariant-loop-t : goal.invariant-loop-t
invariant-loop-t l = l.made.items ≡ take l.t-index l.types
