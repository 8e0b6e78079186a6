use Rattle.std.proofs.Common.{ℕ, List, arith, sym, ◌∙◌, subst, ap}
use Rattle.rwc_acts.specs.Stops.{StopsWithin}
use Rattle.rwc_reports.specs.Acts.{put, outside_of, after_act}
use Rattle.rwc_shows.proofs.Putting.{PutSoFar, one_more, line_broken, all_put, is_empty}
use Rattle.rwc_shows.proofs.lines.put_text.Goals as goal

pub returns-in-Err-clause-carries_out : goal.returns-in-Err-clause-carries_out
returns-in-Err-clause-carries_out g c shelf =
    let mid = g.O.Sink.state c.loop-rest.out in
    let end = g.O.Sink.state c.put_piece.new.out in
    line_broken c.args.text.now c.loop-rest.rest.now (g.O.Sink.state c.args.out.now) mid c.line_length.result end c.in-Err.stop shelf c.line_length.ensures
    (subst (λ (piece : List ℕ). StopsWithin (put piece) (outside_of shelf mid) (outside_of shelf end) c.in-Err.stop) c.split_at.ensures.front (c.in-Err.ensures.performs shelf)) c.loop-rest.invariant.put

pub loop-rest-preserved : goal.loop-rest-preserved
loop-rest-preserved g c =
    let text = c.args.text.now in
    let start = g.O.Sink.state c.args.out.now in
    let mid = g.O.Sink.state c.loop-rest.out in
    let end = g.O.Sink.state c.put_piece.new.out in
    record {
      put = subst (λ (rest : List ℕ). PutSoFar text rest start end) (sym c.split_at.ensures.back)
          (one_more text c.loop-rest.rest.now start mid c.line_length.result end c.line_length.ensures
          (λ shelf. c.in_default.ensures.performs shelf ∙ ap (λ (piece : List ℕ). after_act (put piece) (outside_of shelf mid)) c.split_at.ensures.front) c.loop-rest.invariant.put);
      counts = record {
        puts = omega (arith, c.loop-rest.invariant.counts.puts, c.put_piece.ensures.counts.puts);
        stalled = omega (arith, c.loop-rest.invariant.counts.stalled, c.put_piece.ensures.counts.stalled);
      };
    }

pub returns-clause-carries_out : goal.returns-clause-carries_out
returns-clause-carries_out g c shelf =
    all_put c.args.text.now c.loop-rest.rest.now (g.O.Sink.state c.args.out.now) (g.O.Sink.state c.loop-rest.out) shelf (is_empty c.loop-rest.rest.now (sym c.loop-rest-test.ensures)) c.loop-rest.invariant.put
