-- The first one that is left is the first one.
use Rattle.std.proofs.Common.{◌≡◌, drop}
use Rattle.rich_types.specs.Scopes.{scope_of}
use Rattle.rich_rules.specs.Takers.{first_held}
use Rattle.rw_branch_rows.proofs.crossings.look_unr.Given as goal

abbrev pub invariant-loop-t : goal.invariant-loop-t
invariant-loop-t l = first_held (scope_of l.c.binders) (drop l.t-index l.types) ≡ first_held (scope_of l.c.binders) l.types
