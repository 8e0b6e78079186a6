use Rattle.std.proofs.Common.{ℕ, suc, List, [], ◌∷◌, map, take, drop, string_bytes, refl, ap, sym, ◌∙◌, subst, arith}
use Rattle.rw_io.specs.States.{ShelfState}
use Rattle.rwc_reports.specs.Acts.{Act, put, after_act, after_acts, outside_of}
use Rattle.rwc_reports.specs.Jobs.{lines_job}
use Rattle.rwc_reports.specs.Endings.{whole}
use Rattle.rwc_acts.specs.Stops.{StopsWithin}
use Rattle.rwc_acts.proofs.Endings.{after_acts-append, broken}
use Rattle.rwc_acts.proofs.Putting.{put_line, acts_of, split_at, one_more, all_lines}
use Rattle.rwc_acts.proofs.perform.put_lines.Goals as goal

pub returns-in-Err-clause-carries_out : goal.returns-in-Err-clause-carries_out
returns-in-Err-clause-carries_out g c shelf =
    let lines = c.args.lines.now in
    let i = c.loop-line.line-index in
    let line = c.line-item.result in
    broken (lines_job (map string_bytes lines) 0) (map put_line (take i lines)) (put_line line) (map put_line (drop (suc i) lines)) _ _ _ c.in-Err.stop
    (acts_of lines ∙ split_at lines i line c.loop-line-test.true c.line-item.is)
    (c.loop-line.invariant.outside shelf)
    (subst (λ (piece : List ℕ). StopsWithin (put piece) (outside_of shelf (g.O.Sink.state c.loop-line.out)) (outside_of shelf (g.O.Sink.state c.put_piece.new.out)) c.in-Err.stop) c.as_bytes.ensures.value (c.in-Err.ensures.performs shelf))

pub loop-line-preserved : goal.loop-line-preserved
loop-line-preserved g c =
    let lines = c.args.lines.now in
    let i = c.loop-line.line-index in
    let line = c.line-item.result in
    let start = λ (shelf : ShelfState). outside_of shelf (g.O.Sink.state c.args.out.now) in
    record {
      outside = λ shelf.
          c.in_default.ensures.performs shelf
          ∙ ap (λ (piece : List ℕ). after_act (put piece) (outside_of shelf (g.O.Sink.state c.loop-line.out))) c.as_bytes.ensures.value
          ∙ ap (after_act (put_line line)) (c.loop-line.invariant.outside shelf)
          ∙ sym (after_acts-append (map put_line (take i lines)) (put_line line ∷ []) (start shelf))
          ∙ ap (λ (acts : List Act). after_acts acts (start shelf)) (sym (one_more lines i line c.loop-line-test.true c.line-item.is));
      counts = record {
        puts = omega (arith, c.loop-line.invariant.counts.puts, c.put_piece.ensures.counts.puts);
        stalled = omega (arith, c.loop-line.invariant.counts.stalled, c.put_piece.ensures.counts.stalled);
      };
    }

pub returns-clause-carries_out : goal.returns-clause-carries_out
returns-clause-carries_out g c shelf =
    let lines = c.args.lines.now in
    record {
      done = (lines_job (map string_bytes lines) 0).acts;
      outside = c.loop-line.invariant.outside shelf
          ∙ ap (λ (acts : List Act). after_acts acts (outside_of shelf (g.O.Sink.state c.args.out.now))) (all_lines lines c.loop-line.line-index c.loop-line-test.false ∙ sym (acts_of lines));
      ends = whole refl refl refl;
    }
