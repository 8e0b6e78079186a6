use Rattle.std.proofs.Common.{List, ℕ, [], ◌∷◌, inl, inr, refl, subst}
use Rattle.rwc_acts.proofs.Endings.{stopped_as}
use Rattle.rwc_acts.specs.Stops.{bytes_of}
use Rattle.rwc_reports.specs.Binaries.{BinaryDecodes}
use Rattle.rwc_reports.specs.Executables.{ModuleRuns}
use Rattle.rwc_reports.specs.Executions.{ExecutionReports}
use Rattle.rwc_reports.specs.Sources.{FileLoads}
use Rattle.rwc_reports.specs.Steps.{Onward, stops}
use Rattle.rwc_runs.specs.Executions.{Executes}
use Rattle.rwc_runs.proofs.Kept.{executed}
use Rattle.rwc.proofs.exec.exec.Goals as goal

pub returns-in-Err : goal.returns-in-Err
returns-in-Err g c =
    let words = c.args.words.now in
    let file = words.file.now in
    stopped_as bytes_of (λ told. FileLoads told file) (ExecutionReports words.steps file) (λ told refused l. stops refused (stops refused l refl) refl) (file ∷ []) (0 ∷ 3 ∷ 6 ∷ 7 ∷ 9 ∷ []) file _ _ (3 ∷ []) _ c.in-Err.stop c.in-Err.ensures.loads (inl refl)
    (λ status listed. elim listed [ inl three ↦ inr (inl three) | inr none ↦ absurd none ])

pub returns-in-Ok : goal.returns-in-Ok
returns-in-Ok g c =
    let words = c.args.words.now in
    let file = words.file.now in
    let start = g.O.Sink.state c.args.out.now in
    let end = g.O.Sink.state c.execute.new.out in
    executed file words.steps (g.S.Shelf.state c.args.shelf.now) (g.S.Shelf.state c.load_file.new.shelf) start end c.in-Ok.bytes c.execute.result c.in-Ok.ensures.loads
    (subst (λ (bytes : List ℕ). Executes (Onward (BinaryDecodes file bytes) (ModuleRuns file)) words.steps start end c.execute.result) c.deref.ensures.value c.execute.ensures)
