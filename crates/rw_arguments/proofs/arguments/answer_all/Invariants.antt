-- Those that are left tell of all, and their types are well formed.
use Rattle.std.proofs.Common.{◌≡◌, None, drop}
use Rattle.rich_types.specs.Scopes.{scope_of}
use Rattle.rich_rules.specs.Calls.{answer_all, argument_types}
use Rattle.rich_rules.specs.Forms.{first_ill_formed}
use Rattle.rw_arguments.proofs.arguments.answer_all.Given as goal

abbrev pub invariant-loop-at : goal.invariant-loop-at
invariant-loop-at l = record {
  answered : answer_all (scope_of l.c.binders) (drop l.at l.binders) (drop l.at l.args) ≡ answer_all (scope_of l.c.binders) l.binders l.args;
  formed : first_ill_formed (scope_of l.c.binders) (argument_types (drop l.at l.args)) ≡ None;
}
