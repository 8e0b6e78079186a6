use Rattle.words.proofs.SomeCommand.{command_or_none}
use Rattle.words.proofs.laws.a_command_or_none.Goals as goal

pub returns : goal.returns
returns c = command_or_none
