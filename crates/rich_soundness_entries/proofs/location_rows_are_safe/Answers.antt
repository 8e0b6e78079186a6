use Rattle.rich_soundness_entries.proofs.Locations.{location_rows}
use Rattle.rich_soundness_entries.proofs.location_rows_are_safe.Goals as goal

pub returns : goal.returns
returns c = location_rows
