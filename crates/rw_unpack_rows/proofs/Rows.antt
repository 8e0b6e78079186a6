-- Rows of unpacking and of variants, computed.
use Rattle.std.proofs.Common.{refl}
use Rattle.rich_types.specs.Walks.{below_location, below_variable}
use Rattle.rw_types.specs.declared.types.Heap.TheBlock.{hidden-the_row-Ty-1, hidden-the_row-Ty-2}
use Rattle.rw_unpack_rows.specs.Worked.{WorkedUnpacking}

pub rows : WorkedUnpacking
unfolding below_location below_variable hidden-the_row-Ty-1 hidden-the_row-Ty-2 denote.Hole.Carrier.hidden
rows = record { of_a_hidden_location = refl; of_a_package = refl; of_a_variant = refl }
