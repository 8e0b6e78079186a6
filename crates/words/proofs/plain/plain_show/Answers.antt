use Rattle.std.proofs.Common.{◌∷◌, map, string_bytes}
use Rattle.std.specs.Prelude.{codes}
use Rattle.words.specs.Commands.{spelled_command}
use Rattle.words.specs.Words.{SpellsCommand}
use Rattle.words.proofs.Spelling.{no_show, words_are, found_none}
use Rattle.words.proofs.plain.plain_show.Goals as goal

pub returns-in_err-source-clause-command : goal.returns-in_err-source-clause-command
returns-in_err-source-clause-command c =
    let rest = map string_bytes c.args.rest.now in
    found_none (SpellsCommand (codes "show" ∷ rest)) spelled_command c.from_residual.result c.from_residual.ensures
    (no_show rest (λ source g. c.in_err-source.ensures source (words_are rest source.file g.flags g.after, g.files)))
