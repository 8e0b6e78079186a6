use Rattle.rwc_reports.proofs.OneReport as one
use Rattle.rwc_reports.proofs.SomeReport as some
use Rattle.rwc_reports.proofs.one_report.Goals as goal

pub returns-clause-some : goal.returns-clause-some
returns-clause-some c = some.some_report

pub returns-clause-one : goal.returns-clause-one
returns-clause-one c = one.one_report
