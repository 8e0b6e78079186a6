use Rattle.std.proofs.Common.{sym, subst}
use Rattle.std.specs.declared.result.Result.{Result}
use Rattle.rwc_acts.specs.declared.ending.Done.{Done}
use Rattle.rwc_acts.specs.declared.ending.Stop.{Stop}
use Rattle.rwc_acts.specs.Stops.{status_of, line_of}
use Rattle.rwc_acts.proofs.Endings.{tells_nothing}
use Rattle.rwc_reports.specs.Endings.{Tells}
use Rattle.rwc.proofs.top.answer.Goals as goal

pub returns-in-Ok : goal.returns-in-Ok
returns-in-Ok g c =
    let err = g.E.Sink.state c.args.err.now in
    subst (λ (ended : Result Done Stop). Tells (line_of ended) (status_of ended) err err c.status.result) (sym c.in-Ok.is) (tells_nothing err _ c.status.result c.status.ensures)

pub returns-in-Err : goal.returns-in-Err
returns-in-Err g c =
    subst (λ (ended : Result Done Stop). Tells (line_of ended) (status_of ended) (g.E.Sink.state c.args.err.now) (g.E.Sink.state c.tell.new.err) c.tell.result.0) (sym c.in-Err.is) c.tell.ensures
