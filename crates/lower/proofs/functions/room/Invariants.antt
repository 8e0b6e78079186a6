use Rattle.std.proofs.Common.{◌≡◌, ◌≤◌, max, drop}
use Rattle.lowering_table.specs.Frames.{room_of}
use Rattle.lower.proofs.functions.room.Given as goal

-- the greatest height so far and that of the rest
abbrev pub invariant-loop-at : goal.invariant-loop-at
invariant-loop-at l = record {
  most : max l.most (room_of (drop l.at l.body) (drop l.at l.notes) l.end) ≡ room_of l.body l.notes l.end;
  bound : l.most ≤ 1000;
  end : l.end ≤ l.most;
}
