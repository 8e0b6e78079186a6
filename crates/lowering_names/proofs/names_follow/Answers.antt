use Rattle.lowering_names.proofs.Names.{names_follow}
use Rattle.lowering_names.proofs.names_follow.Goals as goal

pub returns : goal.returns
returns c = names_follow
