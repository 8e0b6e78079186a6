-- The rows, computed.
use Rattle.std.proofs.Common.{refl}
use Rattle.rw_types.specs.declared.types.Heap.TheBlock.{hidden-the_row-Ty-1, hidden-the_row-Ty-2, hidden-the_row-Slot-0, hidden-the_row-FunType-3}
use Rattle.rich_types.specs.Walks.{below_location, below_variable}
use Rattle.rich_rules.specs.Table.{row}
use Rattle.rich_rules.specs.Rows.{WorkedRules}

pub rows : WorkedRules
unfolding row hidden-the_row-Ty-1 hidden-the_row-Ty-2 hidden-the_row-Slot-0 hidden-the_row-FunType-3 below_location below_variable denote.Hole.Carrier.hidden
rows = record { get = refl; get_without_binder = refl; set_without_binder = refl; get_element_without_binder = refl; split_without_binder = refl; free = refl; free_elsewhere = refl; free_array_without_binder = refl; split_unrestricted_capability = refl; set_no_local = refl; counted_size = refl; large_size = refl; variable_qual = refl; other_qual = refl; formed_list = refl; formed_closure = refl; linear_part = refl; free_location = refl; same_closure = refl; other_slot = refl; other_privilege = refl; other_element = refl; fewer_elements = refl }
