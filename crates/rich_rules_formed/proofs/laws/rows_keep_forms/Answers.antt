use Rattle.rich_rules_formed.proofs.Rows.{rows_keep_forms, starts_formed}
use Rattle.rich_rules_formed.proofs.laws.rows_keep_forms.Goals as goal

pub returns-clause-rows : goal.returns-clause-rows
returns-clause-rows c = rows_keep_forms

pub returns-clause-starts : goal.returns-clause-starts
returns-clause-starts c = starts_formed
