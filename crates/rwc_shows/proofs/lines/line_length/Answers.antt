use Rattle.std.proofs.Common.{ℕ, subst}
use Rattle.rwc_shows.specs.Lines.{FirstLine}
use Rattle.rwc_shows.proofs.FirstLines.{first_line, found_length, missed_length}
use Rattle.rwc_shows.proofs.lines.line_length.Goals as goal

pub returns-in-Some : goal.returns-in-Some
returns-in-Some c =
    let text = c.args.text.now in
    subst (λ (n : ℕ). FirstLine text n) (found_length text c.in-Some.at c.in-Some.ensures.place) (first_line text c.requires)

pub returns-in-None : goal.returns-in-None
returns-in-None c =
    let text = c.args.text.now in
    subst (λ (n : ℕ). FirstLine text n) (missed_length text c.in-None.ensures.place) (first_line text c.requires)
