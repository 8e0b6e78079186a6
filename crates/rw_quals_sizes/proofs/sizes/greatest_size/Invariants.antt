-- The greater of what was met and the greatest that is left is, as it is told, that of all types.
use Rattle.std.proofs.Common.{◌≡◌, ◌≤◌, drop}
use Rattle.std.specs.Prelude.{max}
use Rattle.rich_types.specs.Sizes.{list_greatest}
use Rattle.rw_quals_sizes.specs.Capped.{capped}
use Rattle.rw_quals_sizes.specs.Chains.{scope_seen}
use Rattle.rw_quals_sizes.proofs.sizes.greatest_size.Given as goal

abbrev pub invariant-loop-t : goal.invariant-loop-t
invariant-loop-t l = (l.greatest ≤ 10001) × (capped (max l.greatest (list_greatest (scope_seen l.chain) (drop l.t-index l.types))) ≡ capped (list_greatest (scope_seen l.chain) l.types))
