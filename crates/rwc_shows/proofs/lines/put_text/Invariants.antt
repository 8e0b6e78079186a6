use Rattle.std.proofs.Common.{length}
use Rattle.rw_io.specs.States.{NoSinkCountFell}
use Rattle.rwc_shows.proofs.Putting.{PutSoFar}
use Rattle.rwc_shows.proofs.lines.put_text.Given as goal

-- the lines before what is left were put
abbrev pub invariant-loop-rest : goal.invariant-loop-rest
invariant-loop-rest g l = record {
  put : PutSoFar l.text l.rest (g.O.Sink.state l.initial.out) (g.O.Sink.state l.out);
  counts : NoSinkCountFell (g.O.Sink.state l.initial.out) (g.O.Sink.state l.out);
}

abbrev pub decreases-loop-rest : goal.decreases-loop-rest
decreases-loop-rest g l = length l.rest
