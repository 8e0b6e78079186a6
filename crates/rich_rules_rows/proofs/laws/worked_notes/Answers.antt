use Rattle.rich_rules_rows.proofs.Notes.{rows}
use Rattle.rich_rules_rows.proofs.laws.worked_notes.Goals as goal

pub returns : goal.returns
returns c = rows
