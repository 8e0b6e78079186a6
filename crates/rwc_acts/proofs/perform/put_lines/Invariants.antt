use Rattle.std.proofs.Common.{◌≡◌, map, take, string_bytes}
use Rattle.rw_io.specs.States.{ShelfState, NoSinkCountFell}
use Rattle.rwc_reports.specs.Acts.{put, outside_of, after_acts}
use Rattle.rwc_acts.proofs.perform.put_lines.Given as goal

-- the lines before this one were put
abbrev pub invariant-loop-line : goal.invariant-loop-line
invariant-loop-line g l = record {
  outside : (shelf : ShelfState) → outside_of shelf (g.O.Sink.state l.out) ≡ after_acts (map (λ line. put (string_bytes line)) (take l.line-index l.lines)) (outside_of shelf (g.O.Sink.state l.initial.out));
  counts : NoSinkCountFell (g.O.Sink.state l.initial.out) (g.O.Sink.state l.out);
}
