use Rattle.std.proofs.Common.{◌∷◌, map, string_bytes}
use Rattle.std.specs.Prelude.{codes}
use Rattle.words.specs.Commands.{spelled_command}
use Rattle.words.specs.Words.{SpellsCommand}
use Rattle.words.proofs.Spelling.{no_dump, words_are, found_none}
use Rattle.words.proofs.plain.plain_dump.Goals as goal

pub returns-in_err-file-clause-command : goal.returns-in_err-file-clause-command
returns-in_err-file-clause-command c =
    let rest = map string_bytes c.args.rest.now in
    found_none (SpellsCommand (codes "dump" ∷ rest)) spelled_command c.from_residual.result c.from_residual.ensures
    (no_dump rest (λ file g. c.in_err-file.ensures file (words_are rest file g.flags g.after, g.files)))
