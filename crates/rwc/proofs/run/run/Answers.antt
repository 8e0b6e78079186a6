use Rattle.std.proofs.Common.{List, ℕ, [], ◌∷◌, inl, inr, refl, subst}
use Rattle.lowering_table.specs.declared.Pages.{Pages}
use Rattle.lowering_table.specs.Modules.{ArePages}
use Rattle.rwc_acts.proofs.Endings.{stopped_as}
use Rattle.rwc_acts.specs.Stops.{bytes_of}
use Rattle.words.specs.Commands.{spelled_source}
use Rattle.rwc_reports.specs.Binaries.{BinaryDecodes}
use Rattle.rwc_reports.specs.Executables.{ModuleRuns}
use Rattle.rwc_reports.specs.Executions.{ProgramRunReports}
use Rattle.rwc_reports.specs.Reports.{BinaryLeads}
use Rattle.rwc_reports.specs.Steps.{Onward, IsOneOf}
use Rattle.rwc_runs.specs.Executions.{Executes}
use Rattle.rwc_runs.proofs.Kept.{run_refused, ran}
use Rattle.rwc.proofs.run.run.Goals as goal

run_statuses : (status : ℕ) → IsOneOf (1 ∷ 3 ∷ 11 ∷ []) status → IsOneOf (0 ∷ 1 ∷ 3 ∷ 6 ∷ 7 ∷ 10 ∷ 11 ∷ []) status
run_statuses status (inl e) = inr (inl e)
run_statuses status (inr (inl e)) = inr (inr (inl e))
run_statuses status (inr (inr (inl e))) = inr (inr (inr (inr (inr (inr (inl e))))))
run_statuses status (inr (inr (inr none))) = absurd none

pub returns-in-Err : goal.returns-in-Err
returns-in-Err g c =
    let words = c.args.words.now in
    let pages : Pages = record { lin = words.lin; unr = words.unr } in
    let source = spelled_source words.source in
    let are : ArePages pages = record { some = c.requires.ranges.0.0; linear = c.requires.ranges.0.1; unrestricted = c.requires.ranges.0.2 } in
    stopped_as bytes_of (λ told. BinaryLeads told (source ∷ []) pages) (ProgramRunReports pages words.steps (source ∷ [])) (run_refused pages are words.steps source) (source.file ∷ []) (0 ∷ 1 ∷ 3 ∷ 6 ∷ 7 ∷ 10 ∷ 11 ∷ []) source.file _ _ (1 ∷ 3 ∷ 11 ∷ []) _
    c.in-Err.stop c.in-Err.ensures.loads (inl refl) run_statuses

pub returns-in-Ok : goal.returns-in-Ok
returns-in-Ok g c =
    let words = c.args.words.now in
    let pages : Pages = record { lin = words.lin; unr = words.unr } in
    let source = spelled_source words.source in
    let are : ArePages pages = record { some = c.requires.ranges.0.0; linear = c.requires.ranges.0.1; unrestricted = c.requires.ranges.0.2 } in
    let start = g.O.Sink.state c.args.out.now in
    let end = g.O.Sink.state c.execute.new.out in
    ran pages are words.steps source (g.S.Shelf.state c.args.shelf.now) (g.S.Shelf.state c.compile.new.shelf) start end c.in-Ok.binary c.execute.result c.in-Ok.ensures.loads c.in-Ok.ensures.lone
    (subst (λ (bytes : List ℕ). Executes (Onward (BinaryDecodes source.file bytes) (ModuleRuns source.file)) words.steps start end c.execute.result) c.deref.ensures.value c.execute.ensures)
