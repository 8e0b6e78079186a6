-- Those that are left tell of all.
use Rattle.std.proofs.Common.{◌≡◌, drop}
use Rattle.rich_types.specs.Scopes.{scope_of}
use Rattle.rich_rules.specs.Calls.{are_locations}
use Rattle.rw_arguments.proofs.arguments.are_locations.Given as goal

abbrev pub invariant-loop-arg : goal.invariant-loop-arg
invariant-loop-arg l = are_locations (scope_of l.c.binders) (drop l.arg-index l.args) ≡ are_locations (scope_of l.c.binders) l.args
