use Rattle.rwc_reports.proofs.CommandLaws as laws
use Rattle.rwc_reports.proofs.statuses_of_commands.Goals as goal

pub returns : goal.returns
returns c = laws.statuses_of_commands
