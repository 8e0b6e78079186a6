use Rattle.std.proofs.Common.{List, ℕ, inl, ap, ◌∙◌}
use Rattle.rwc_reports.specs.Acts.{put, after_act, outside_of}
use Rattle.rwc_runs.proofs.last.put_last.Goals as goal

pub returns-in-Ok-put_piece-clause-puts : goal.returns-in-Ok-put_piece-clause-puts
returns-in-Ok-put_piece-clause-puts g c = λ shelf.
    inl (c.in-Ok-put_piece.ensures.performs shelf ∙ ap (λ (piece : List ℕ). after_act (put piece) (outside_of shelf (g.O.Sink.state c.args.out.now))) (c.as_bytes.ensures.value ∙ c.in-Ok.ensures))
