-- What differs first from here on differs first of all.
use Rattle.std.proofs.Common.{◌≡◌, drop}
use Rattle.rich_rules.specs.Takers.{first_difference}
use Rattle.rw_demands.proofs.differences.look_same.Given as goal

abbrev pub invariant-loop-at : goal.invariant-loop-at
invariant-loop-at l = first_difference (drop l.at l.types) (drop l.at l.demanded) ≡ first_difference l.types l.demanded
