use Rattle.rich_rights.proofs.Kept.{divided}
use Rattle.rich_rights.proofs.rights_are_divided.Goals as goal

pub returns : goal.returns
returns c = divided
