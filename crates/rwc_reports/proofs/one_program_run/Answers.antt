use Rattle.rwc_reports.proofs.Executions.{binaries_run, one_program_run}
use Rattle.rwc_reports.proofs.one_program_run.Goals as goal

pub returns-clause-one : goal.returns-clause-one
returns-clause-one c = one_program_run

pub returns-clause-itself : goal.returns-clause-itself
returns-clause-itself c = binaries_run
