use Rattle.rwc_reports.proofs.Executions.{one_execution}
use Rattle.rwc_reports.proofs.one_execution.Goals as goal

pub returns : goal.returns
returns c = one_execution
