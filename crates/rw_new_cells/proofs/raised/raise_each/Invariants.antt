-- What was made, and what is still to be made, are the whole.
use Rattle.std.proofs.Common.{◌≡◌, ◌++◌, drop}
use Rattle.rich_rules.specs.Raised.{one_location, raise_all}
use Rattle.rw_new_cells.proofs.raised.raise_each.Given as goal

abbrev pub invariant-loop-t : goal.invariant-loop-t
invariant-loop-t l = l.raised ++ raise_all one_location (drop l.t-index l.types) ≡ raise_all one_location l.types
