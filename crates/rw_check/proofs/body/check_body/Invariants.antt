use Rattle.std.proofs.Common.{take, ◌≤◌, []}
use Rattle.rich_typing.specs.Derivations.{Derives}
use Rattle.rich_typing.specs.Table.{i64s}
use Rattle.rw_check.proofs.body.check_body.Given as goal

abbrev pub invariant-loop-at : goal.invariant-loop-at
invariant-loop-at l = record { derived : Derives [] (take l.at l.body) [] l.notes (i64s l.operands); few : l.operands ≤ l.at }
