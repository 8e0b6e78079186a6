-- Below the binders that are left it is as deep as below all.
use Rattle.std.proofs.Common.{◌≡◌, drop}
use Rattle.rich_types.specs.Walks.{below}
use Rattle.rw_substitution.proofs.depths.below.Given as goal

abbrev pub invariant-loop-binder : goal.invariant-loop-binder
invariant-loop-binder l = below (drop l.binder-index l.binders) l.deeper ≡ below l.binders l.fn.depth
