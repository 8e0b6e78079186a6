use Rattle.rwc_reports.proofs.CommandLaws as laws
use Rattle.rwc_reports.proofs.typed_is_built.Goals as goal

pub returns : goal.returns
returns c = laws.typed_is_built
