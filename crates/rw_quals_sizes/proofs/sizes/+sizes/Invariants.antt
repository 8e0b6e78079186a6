-- The total and the sizes of the types that are left are, as they are told, those of all types.
use Rattle.std.proofs.Common.{◌≡◌, ◌+◌, ◌≤◌, drop}
use Rattle.rich_types.specs.Sizes.{list_size}
use Rattle.rw_quals_sizes.specs.Capped.{capped}
use Rattle.rw_quals_sizes.specs.Chains.{scope_seen}
use Rattle.rw_quals_sizes.proofs.sizes.+sizes.Given as goal

abbrev pub invariant-size_of_list-loop-t : goal.invariant-size_of_list-loop-t
invariant-size_of_list-loop-t l = (l.total ≤ 10001) × (capped (l.total + list_size (scope_seen l.chain) (drop l.t-index l.types)) ≡ capped (list_size (scope_seen l.chain) l.types))
