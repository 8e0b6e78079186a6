use Rattle.std.proofs.Common.{◌≡◌, ◌∷◌, true, false, map, string_bytes, sym, ◌∙◌}
use Rattle.std.specs.Prelude.{codes}
use Rattle.words.specs.Commands.{spelled_command, spelled_source}
use Rattle.words.specs.Words.{run, SpellsCommand}
use Rattle.words.proofs.Spelling.{no_run, found_none, spells}
use Rattle.words.proofs.plain.plain_run.Goals as goal

pub returns-then-not-have_flags-clause-command : goal.returns-then-not-have_flags-clause-command
returns-then-not-have_flags-clause-command c =
    no_run (map string_bytes c.args.rest.now) (λ lin unr steps source g. let bad : false ≡ true = c.if-not-have_flags.ensures ∙ g.flags in absurd cc)

pub returns-in_err-pages-clause-command : goal.returns-in_err-pages-clause-command
returns-in_err-pages-clause-command c =
    let rest = map string_bytes c.args.rest.now in
    found_none (SpellsCommand (codes "run" ∷ rest)) spelled_command c.from_residual.result c.from_residual.ensures
    (no_run rest (λ lin unr steps source g. c.in_err-pages.ensures.pages (lin, unr) g.given.0))

pub returns-in_err-steps-clause-command : goal.returns-in_err-steps-clause-command
returns-in_err-steps-clause-command c =
    let rest = map string_bytes c.args.rest.now in
    found_none (SpellsCommand (codes "run" ∷ rest)) spelled_command c.from_residual-in_err-steps.result c.from_residual-in_err-steps.ensures
    (no_run rest (λ lin unr steps source g. c.in_err-steps.ensures.steps steps g.given.1))

pub returns-in_err-source-clause-command : goal.returns-in_err-source-clause-command
returns-in_err-source-clause-command c =
    let rest = map string_bytes c.args.rest.now in
    found_none (SpellsCommand (codes "run" ∷ rest)) spelled_command c.from_residual-in_err-source.result c.from_residual-in_err-source.ensures
    (no_run rest (λ lin unr steps source g. c.in_err-source.ensures source (c.files.ensures ∙ g.after, g.files)))

pub returns-clause-command : goal.returns-clause-command
returns-clause-command c =
    spells (map string_bytes c.args.rest.now) (run c.in_ok-pages.pages.lin c.in_ok-pages.pages.unr c.in_ok-steps.steps (spelled_source c.in_ok-source.source)) (record {
      flags = sym c.if-not-have_flags.ensures;
      given = (c.in_ok-pages.ensures.pages, c.in_ok-steps.ensures.steps);
      after = sym c.files.ensures ∙ c.in_ok-source.ensures.0;
      files = c.in_ok-source.ensures.1;
    })
