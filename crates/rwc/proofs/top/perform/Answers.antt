use Rattle.std.proofs.Common.{map, string_bytes, refl, subst}
use Rattle.std.specs.declared.option.Option.{Option}
use Rattle.std.specs.Option.{option_map}
use Rattle.words.specs.declared.Command.{Command}
use Rattle.words.specs.Commands.{spelled_command}
use Rattle.words.specs.Found.{Finds}
use Rattle.words.specs.Words.{SpellsCommand}
use Rattle.rwc_acts.specs.Kept.{command, no_command, no_memory}
use Rattle.rwc.proofs.top.perform.Goals as goal

pub returns-in-Ok-Some : goal.returns-in-Ok-Some
returns-in-Ok-Some g c =
    command (spelled_command c.in-Ok-Some.command)
    (subst (λ (found : Option Command). Finds (SpellsCommand (map string_bytes c.args.words.now)) (option_map spelled_command found)) c.in-Ok-Some.field-0-is c.in-Ok-Some.ensures.command)
    c.perform_command.ensures

pub returns-in-Ok-None : goal.returns-in-Ok-None
returns-in-Ok-None g c =
    no_command c.refuse_words.result
    (subst (λ (found : Option Command). Finds (SpellsCommand (map string_bytes c.args.words.now)) (option_map spelled_command found)) c.in-Ok-None.field-0-is c.in-Ok-None.ensures.command)
    refl c.refuse_words.ensures refl

pub returns-in-Err : goal.returns-in-Err
returns-in-Err g c = no_memory refl refl
