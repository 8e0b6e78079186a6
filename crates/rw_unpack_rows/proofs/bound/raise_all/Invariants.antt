-- What was made, and what is still to be made, are the whole.
use Rattle.std.proofs.Common.{◌≡◌, ◌++◌, drop}
use Rattle.rich_rules.specs.Raised.{raise_all}
use Rattle.rw_unpack_rows.proofs.bound.raise_all.Given as goal

abbrev pub invariant-loop-t : goal.invariant-loop-t
invariant-loop-t l = l.raised ++ raise_all l.by (drop l.t-index l.types) ≡ raise_all l.by l.types
