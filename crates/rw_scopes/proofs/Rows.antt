-- The rows, computed.
use Rattle.std.proofs.Common.{refl}
use Rattle.rich_types.specs.Walks.{below_location, below_variable}
use Rattle.rw_scopes.specs.Rows.{WorkedLabels}

pub rows : WorkedLabels
unfolding below_location below_variable
rows = record { no_labels = refl; one_label = refl; two_labels = refl; results_near = refl; results_far = refl; operands_top_first = refl; target_in_text_order = refl; no_target = refl }
