use Rattle.std.proofs.Common.{◌≡◌, List, [], ◌∷◌, ℕ, inl, inr, refl, subst}
use Rattle.words.specs.Commands.{spelled_source}
use Rattle.rwc_acts.proofs.Endings.{stopped, delivered, finished_comes, written_also, write_rose_from}
use Rattle.rwc_acts.specs.Stops.{status_of, line_of}
use Rattle.rwc_reports.specs.Acts.{outside_of}
use Rattle.rwc_reports.specs.Endings.{CarriesOut}
use Rattle.rwc_reports.specs.Jobs.{lines_job}
use Rattle.rwc_reports.specs.Shows.{lines_of}
use Rattle.rwc_shows.specs.Shown.{lines_in, ShownLinesLead}
use Rattle.rwc_shows.proofs.Showing.{keeps_shown}
use Rattle.rwc_shows.proofs.shown.show.Goals as goal

pub returns-in-Err : goal.returns-in-Err
returns-in-Err g c =
    let source = spelled_source c.args.source.now in
    keeps_shown source (source.file ∷ []) (0 ∷ 1 ∷ 3 ∷ []) _ _ _ _ _
    (stopped lines_in (λ told. ShownLinesLead told source) (λ lines j. j ≡ lines_job lines 0) (source.file ∷ []) (0 ∷ 1 ∷ 3 ∷ []) source.file _ _ (1 ∷ 3 ∷ []) _ c.in-Err.stop c.in-Err.ensures (inl refl) (λ status listed. inr listed))

pub returns-in-Ok : goal.returns-in-Ok
returns-in-Ok g c =
    let source = spelled_source c.args.source.now in
    let before = g.S.Shelf.state c.args.shelf.now in
    let mid = g.S.Shelf.state c.shown_text.new.shelf in
    let start = g.O.Sink.state c.args.out.now in
    let end = g.O.Sink.state c.put_text.new.out in
    let result = c.put_text.result in
    keeps_shown source (source.file ∷ []) (0 ∷ 1 ∷ 3 ∷ []) _ _ _ _ _
    (delivered lines_in (λ told. ShownLinesLead told source) (λ lines j. j ≡ lines_job lines 0) (source.file ∷ []) (0 ∷ 1 ∷ 3 ∷ []) source.file before mid (1 ∷ 3 ∷ []) c.in-Ok.text (lines_job (lines_in c.in-Ok.text) 0) mid start end result c.in-Ok.ensures refl
    (subst (λ (text : List ℕ). CarriesOut (lines_job (lines_of text) 0) (outside_of mid start) (outside_of mid end) (status_of result) (line_of result)) c.deref.ensures.value (c.put_text.ensures.carries_out mid))
    (finished_comes (0 ∷ 1 ∷ 3 ∷ []) before mid result (inl refl) c.put_text.ensures.finished)
    (write_rose_from before mid mid start end c.shown_text.ensures.counts)
    (written_also result _ _ (λ rose. inr (inr rose)) c.put_text.ensures.causes))
