use Rattle.rich_rights.proofs.Kept.{starts}
use Rattle.rich_rights.proofs.programs_start_with_rights_kept.Goals as goal

pub returns : goal.returns
returns c = starts
