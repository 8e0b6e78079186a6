use Rattle.rwc_reports.proofs.CommandLaws as laws
use Rattle.rwc_reports.proofs.LonePrograms as lone
use Rattle.rwc_reports.proofs.lone_programs.Goals as goal

pub returns-clause-lone : goal.returns-clause-lone
returns-clause-lone c = lone.leads_to_lone

pub returns-clause-ends : goal.returns-clause-ends
returns-clause-ends c = laws.programs_end

pub returns-clause-short : goal.returns-clause-short
returns-clause-short c = laws.none_too_long

pub returns-clause-untyped : goal.returns-clause-untyped
returns-clause-untyped c = laws.no_type_told
