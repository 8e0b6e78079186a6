use Rattle.std.proofs.Common.{List, ℕ, inl, inr, refl, sym, subst, Ok}
use Rattle.words.specs.Commands.{spelled_source}
use Rattle.rwc_acts.proofs.Loading.{last_step, load_stopped}
use Rattle.rwc_reports.specs.Sources.{FileLoads}
use Rattle.rwc_reports.specs.Steps.{goes_on, stops}
use Rattle.rwc_shows.specs.Shown.{TextShows}
use Rattle.rwc_shows.proofs.Showing.{refused_text_status}
use Rattle.rwc_shows.proofs.shown.shown_text.Goals as goal

pub returns-in-Err : goal.returns-in-Err
returns-in-Err g c = load_stopped _ _ _ _ _ _ _ _ _ c.in-Err.stop c.in-Err.ensures.loads (λ told refused f. stops refused f refl) (λ status listed. elim listed [ inl three ↦ inr (inl three) | inr none ↦ absurd none ])

pub returns-in-Ok : goal.returns-in-Ok
returns-in-Ok g c =
    let source = spelled_source c.args.source.now in
    let bytes = c.deref.result.now in
    last_step _ _ _ _ _ _ c.load_file.ensures.loads.same c.load_file.ensures.loads.counts (TextShows source bytes) c.text_of.result c.text_of.ensures
    (λ told e r step. goes_on bytes (subst (λ (b : List ℕ). FileLoads told source.file (Ok b)) (sym c.deref.ensures.value) (c.in-Ok.ensures.loads.leads told e)) step)
    (λ refused step. inl (refused_text_status source bytes refused step))
