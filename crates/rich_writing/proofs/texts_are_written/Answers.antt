use Rattle.rich_writing.proofs.Rows.{rows}
use Rattle.rich_writing.proofs.texts_are_written.Goals as goal

pub returns : goal.returns
returns c = rows
