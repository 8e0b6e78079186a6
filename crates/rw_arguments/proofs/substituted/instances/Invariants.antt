-- What was made, and what is still to be made, are the whole.
use Rattle.std.proofs.Common.{◌≡◌, ◌++◌, drop}
use Rattle.rich_rules.specs.Raised.{instances}
use Rattle.rw_arguments.proofs.substituted.instances.Given as goal

abbrev pub invariant-loop-t : goal.invariant-loop-t
invariant-loop-t l = l.made ++ instances l.args (drop l.t-index l.types) ≡ instances l.args l.types
