use Rattle.rich_soundness_blocks.proofs.Blocks.{blocks}
use Rattle.rich_soundness_blocks.proofs.block_row_is_safe.Goals as goal

pub returns : goal.returns
returns c = blocks
