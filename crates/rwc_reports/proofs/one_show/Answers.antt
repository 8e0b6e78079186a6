use Rattle.rwc_reports.proofs.Shows.{one_show, shown_is_canonical}
use Rattle.rwc_reports.proofs.one_show.Goals as goal

pub returns-clause-one : goal.returns-clause-one
returns-clause-one c = one_show

pub returns-clause-whole : goal.returns-clause-whole
returns-clause-whole c = shown_is_canonical
