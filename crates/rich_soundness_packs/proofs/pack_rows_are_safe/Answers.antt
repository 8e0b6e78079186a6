use Rattle.rich_soundness_packs.proofs.Packs.{pack_rows}
use Rattle.rich_soundness_packs.proofs.pack_rows_are_safe.Goals as goal

pub returns : goal.returns
returns c = pack_rows
