use Rattle.rich_soundness_globals.proofs.Globals.{global_rows}
use Rattle.rich_soundness_globals.proofs.global_rows_are_safe.Goals as goal

pub returns : goal.returns
returns c = global_rows
