use Rattle.std.proofs.Common.{◌≡◌, ◌≤◌, ◌-◌, length, take}
use Rattle.std.specs.Io.KnownBytes.{append_known}
use Rattle.rw_io.specs.States.{NoSinkCountFell}
use Rattle.rw_io.proofs.Offered.{Completes}
use Rattle.rw_io.proofs.whole.put_whole.Given as goal

-- the front up to `at` was put
abbrev pub invariant-loop-at : goal.invariant-loop-at
invariant-loop-at g l = record {
  at : l.at ≤ length l.piece;
  put : (g.O.Sink.state l.out).bytes ≡ append_known (g.O.Sink.state l.initial.out).bytes (take l.at l.piece);
  pieces : Completes g.O.Sink.puts l.initial.out l.piece l.out l.at;
  counts : NoSinkCountFell (g.O.Sink.state l.initial.out) (g.O.Sink.state l.out);
}

abbrev pub decreases-loop-at : goal.decreases-loop-at
decreases-loop-at g l = length l.piece - l.at
