-- The first one that is left is the first one.
use Rattle.std.proofs.Common.{◌≡◌, drop}
use Rattle.rich_types.specs.Scopes.{scope_of}
use Rattle.rich_rules.specs.Forms.{first_ill_formed}
use Rattle.rw_type_tests.proofs.lists.first_ill_formed.Given as goal

abbrev pub invariant-loop-t : goal.invariant-loop-t
invariant-loop-t l = first_ill_formed (scope_of l.c.binders) (drop l.t-index l.types) ≡ first_ill_formed (scope_of l.c.binders) l.types
