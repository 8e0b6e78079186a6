-- The first one that is left is the first one.
use Rattle.std.proofs.Common.{◌≡◌, drop}
use Rattle.rich_types.specs.Scopes.{scope_of}
use Rattle.rich_rules.specs.Calls.{argument_types}
use Rattle.rich_rules.specs.Forms.{first_ill_formed}
use Rattle.rw_arguments.proofs.arguments.ill_formed_argument.Given as goal

abbrev pub invariant-loop-arg : goal.invariant-loop-arg
invariant-loop-arg l = first_ill_formed (scope_of l.c.binders) (argument_types (drop l.arg-index l.args)) ≡ first_ill_formed (scope_of l.c.binders) (argument_types l.args)
