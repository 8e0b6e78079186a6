use Rattle.rich_soundness_variants.proofs.Variants.{variant_rows}
use Rattle.rich_soundness_variants.proofs.variant_rows_are_safe.Goals as goal

pub returns : goal.returns
returns c = variant_rows
