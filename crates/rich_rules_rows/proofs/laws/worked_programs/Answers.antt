use Rattle.rich_rules_rows.proofs.Programs.{rows}
use Rattle.rich_rules_rows.proofs.laws.worked_programs.Goals as goal

pub returns : goal.returns
returns c = rows
