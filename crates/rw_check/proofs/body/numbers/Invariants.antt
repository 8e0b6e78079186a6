use Rattle.std.proofs.Common.{◌≡◌}
use Rattle.rich_typing.specs.Table.{i64s}
use Rattle.rw_check.proofs.body.numbers.Given as goal

abbrev pub invariant-loop : goal.invariant-loop
invariant-loop l = l.types ≡ i64s l.counter
