use Rattle.std.proofs.Common.{◌≡◌, ◌++◌, drop}
use Rattle.lowering_table.specs.Rows.{rows}
use Rattle.lower.proofs.functions.push_rows.Given as goal

-- the code so far and that of the rest
abbrev pub invariant-loop-at : goal.invariant-loop-at
invariant-loop-at l = l.out ++ rows l.first (drop l.at l.body) (drop l.at l.notes) ≡ l.initial.out ++ rows l.first l.body l.notes
