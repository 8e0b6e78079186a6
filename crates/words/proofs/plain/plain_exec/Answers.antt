use Rattle.std.proofs.Common.{◌≡◌, ◌∷◌, true, false, map, string_bytes, sym, ◌∙◌}
use Rattle.std.specs.Prelude.{codes}
use Rattle.words.specs.Commands.{spelled_command}
use Rattle.words.specs.Words.{exec, SpellsCommand}
use Rattle.words.proofs.Spelling.{no_exec, found_none, spells}
use Rattle.words.proofs.plain.plain_exec.Goals as goal

pub returns-then-not-have_flags-clause-command : goal.returns-then-not-have_flags-clause-command
returns-then-not-have_flags-clause-command c =
    no_exec (map string_bytes c.args.rest.now) (λ steps file g. let bad : false ≡ true = c.if-not-have_flags.ensures ∙ g.flags in absurd cc)

pub returns-in_err-steps-clause-command : goal.returns-in_err-steps-clause-command
returns-in_err-steps-clause-command c =
    let rest = map string_bytes c.args.rest.now in
    found_none (SpellsCommand (codes "exec" ∷ rest)) spelled_command c.from_residual.result c.from_residual.ensures
    (no_exec rest (λ steps file g. c.in_err-steps.ensures.steps steps g.given))

pub returns-in_err-file-clause-command : goal.returns-in_err-file-clause-command
returns-in_err-file-clause-command c =
    let rest = map string_bytes c.args.rest.now in
    found_none (SpellsCommand (codes "exec" ∷ rest)) spelled_command c.from_residual-in_err-file.result c.from_residual-in_err-file.ensures
    (no_exec rest (λ steps file g. c.in_err-file.ensures file (c.files.ensures ∙ g.after, g.files)))

pub returns-clause-command : goal.returns-clause-command
returns-clause-command c =
    spells (map string_bytes c.args.rest.now) (exec c.in_ok-steps.steps c.in_ok-file.file.now) (record {
      flags = sym c.if-not-have_flags.ensures;
      given = c.in_ok-steps.ensures.steps;
      after = sym c.files.ensures ∙ c.in_ok-file.ensures.0;
      files = c.in_ok-file.ensures.1;
    })
