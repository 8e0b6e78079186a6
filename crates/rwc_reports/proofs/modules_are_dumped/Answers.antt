use Rattle.rwc_reports.proofs.CommandLaws as laws
use Rattle.rwc_reports.proofs.modules_are_dumped.Goals as goal

pub returns-clause-spelled : goal.returns-clause-spelled
returns-clause-spelled c = laws.module_is_dumped

pub returns-clause-faulty : goal.returns-clause-faulty
returns-clause-faulty c = laws.fault_is_refused

pub returns-clause-dumped : goal.returns-clause-dumped
returns-clause-dumped c = laws.dumped_is_module
