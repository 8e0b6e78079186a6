-- The rows, computed.
use Rattle.std.proofs.Common.{refl}
use Rattle.rich_types.specs.Walks.{below_location, below_variable}
use Rattle.rw_branch_rows.specs.Rows.{WorkedBranches}

pub rows : WorkedBranches
unfolding below_location below_variable
rows = record { out_of_a_block = refl; out_of_two = refl; out_of_three = refl; without_what_is_carried = refl; another_is_carried = refl; a_right_is_left = refl; a_right_is_left_before_locals_differ = refl; a_local_differs = refl; a_number_is_taken = refl; no_number = refl; return_from_the_body = refl; return_leaves_a_right_of_the_outer_list = refl; return_with_a_right_in_a_local = refl }
