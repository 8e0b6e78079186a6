use Rattle.std.proofs.Common.{List, ℕ, ap, ◌∙◌}
use Rattle.std.specs.Prelude.{codes}
use Rattle.std.proofs.lemmas.Result.{IfOk-weaker}
use Rattle.rwc_reports.specs.Refusals.{place_text, refused_line}
use Rattle.rwc_refusals.proofs.refusals.refused.Goals as goal

pub returns : goal.returns
returns c =
    let file = c.args.file.now in
    IfOk-weaker c.line_of.result _ _
    (λ line h. h
    ∙ ap (λ (at : List ℕ). refused_line file at c.name_of.result.now (codes "-") (codes "-")) (c.as_str.ensures.value ∙ c.in_ok-at.ensures)
    ∙ ap (λ (rule : List ℕ). refused_line file (place_text c.args.place.now) rule (codes "-") (codes "-")) c.name_of.ensures)
    c.line_of.ensures
