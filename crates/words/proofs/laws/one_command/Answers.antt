use Rattle.words.proofs.OneCommand as commands
use Rattle.words.proofs.laws.one_command.Goals as goal

pub returns : goal.returns
returns c = commands.one_command
