use Rattle.rich_soundness_calls.proofs.Calls.{call_rows}
use Rattle.rich_soundness_calls.proofs.call_rows_are_safe.Goals as goal

pub returns : goal.returns
returns c = call_rows
