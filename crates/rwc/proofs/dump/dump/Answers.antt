use Rattle.std.proofs.Common.{◌≡◌, List, [], ◌∷◌, inl, inr, map, string_bytes, refl, subst}
use Rattle.std.specs.declared.alloc.Global.{Global}
use Rattle.std.specs.declared.string.String.{String}
use Rattle.rwc_acts.proofs.Endings.{stopped, delivered, finished_comes, written_also, write_rose_from}
use Rattle.rwc_acts.specs.Stops.{status_of, line_of, texts_of}
use Rattle.rwc_reports.specs.Acts.{outside_of}
use Rattle.rwc_reports.specs.Endings.{CarriesOut}
use Rattle.rwc_reports.specs.Jobs.{lines_job}
use Rattle.rwc_reports.specs.Reports.{LinesLead}
use Rattle.rwc.proofs.dump.dump.Goals as goal

pub returns-in-Err : goal.returns-in-Err
returns-in-Err g c =
    stopped texts_of (λ told. LinesLead told c.args.file.now) (λ lines j. j ≡ lines_job lines 0) (c.args.file.now ∷ []) (0 ∷ 3 ∷ 9 ∷ []) c.args.file.now _ _ (3 ∷ 9 ∷ []) _ c.in-Err.stop c.in-Err.ensures (inl refl) (λ status listed. inr listed)

pub returns-in-Ok : goal.returns-in-Ok
returns-in-Ok g c =
    let mid = g.S.Shelf.state c.lines_of_file.new.shelf in
    let start = g.O.Sink.state c.args.out.now in
    let end = g.O.Sink.state c.put_lines.new.out in
    let result = c.put_lines.result in
    delivered texts_of (λ told. LinesLead told c.args.file.now) (λ lines j. j ≡ lines_job lines 0) (c.args.file.now ∷ []) (0 ∷ 3 ∷ 9 ∷ []) c.args.file.now (g.S.Shelf.state c.args.shelf.now) mid (3 ∷ 9 ∷ []) c.in-Ok.lines (lines_job (texts_of c.in-Ok.lines) 0) mid start end result c.in-Ok.ensures refl
    (subst (λ (lines : List (String Global)). CarriesOut (lines_job (map string_bytes lines) 0) (outside_of mid start) (outside_of mid end) (status_of result) (line_of result)) c.deref.ensures.value (c.put_lines.ensures.carries_out mid))
    (finished_comes (0 ∷ 3 ∷ 9 ∷ []) (g.S.Shelf.state c.args.shelf.now) mid result (inl refl) c.put_lines.ensures.finished)
    (write_rose_from (g.S.Shelf.state c.args.shelf.now) mid mid start end c.lines_of_file.ensures.counts)
    (written_also result _ _ (λ rose. inr (inr rose)) c.put_lines.ensures.causes)
