use Rattle.std.proofs.Common.{◌≡◌, ◌≤◌, ◌-◌, length, take}
use Rattle.rw_io.specs.States.{NoShelfCountFell, appended}
use Rattle.rw_io.proofs.Offered.{Completes}
use Rattle.rw_io.proofs.whole.append_whole.Given as goal

-- the front up to `at` was appended
abbrev pub invariant-loop-at : goal.invariant-loop-at
invariant-loop-at g l = record {
  at : l.at ≤ length l.piece;
  put : (g.S.Shelf.state l.shelf).holding ≡ appended (take l.at l.piece) (g.S.Shelf.state l.initial.shelf).holding;
  pieces : Completes g.S.Shelf.appends l.initial.shelf l.piece l.shelf l.at;
  counts : NoShelfCountFell (g.S.Shelf.state l.initial.shelf) (g.S.Shelf.state l.shelf);
}

abbrev pub decreases-loop-at : goal.decreases-loop-at
decreases-loop-at g l = length l.piece - l.at
