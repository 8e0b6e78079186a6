-- What was raised, and what is still to be raised, are the whole.
use Rattle.std.proofs.Common.{◌≡◌, ◌++◌, drop}
use Rattle.rich_rules.specs.Raised.{raise_all}
use Rattle.rw_scopes.proofs.raising.raise_types.Given as goal

abbrev pub invariant-loop-t : goal.invariant-loop-t
invariant-loop-t l = l.raised ++ raise_all l.by (drop l.t-index l.types) ≡ raise_all l.by l.types
