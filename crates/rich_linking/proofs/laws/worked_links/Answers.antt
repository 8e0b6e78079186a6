use Rattle.rich_linking.proofs.Rows.{rows}
use Rattle.rich_linking.proofs.laws.worked_links.Goals as goal

pub returns : goal.returns
returns c = rows
