-- The rows, computed.
use Rattle.std.proofs.Common.{refl}
use Rattle.rw_types.specs.declared.instrs.Instr.TheBlock.{hidden-the_row-Instr-0, hidden-the_row-Instr-VariantCase-1-1-1}
use Rattle.rw_types.specs.declared.types.Heap.TheBlock.{hidden-the_row-Ty-1, hidden-the_row-Ty-2, hidden-the_row-Slot-0, hidden-the_row-FunType-3}
use Rattle.rich_types.specs.Walks.{below_location, below_variable}
use Rattle.rich_rules.specs.Table.{row, takes}
use Rattle.rich_rules_rows.proofs.Read.{accepted, refused}
use Rattle.rich_rules_rows.specs.Locations.{WorkedLocations}

pub rows : WorkedLocations
unfolding row takes hidden-the_row-Instr-0 hidden-the_row-Instr-VariantCase-1-1-1 hidden-the_row-Ty-1 hidden-the_row-Ty-2 hidden-the_row-Slot-0 hidden-the_row-FunType-3 below_location below_variable denote.Hole.Carrier.hidden
rows = record {
  pack_index_before_type_form = refused _ refl;
  pack_type_form_under_its_binder = refused _ refl;
  pack_the_type_with_its_location_put_in = refused _ refl;
  pack_and_unpack_again = accepted _ refl;
  unpack_of_a_number = refused _ refl;
  unpack_its_parameter_then_the_hidden = refused _ refl;
  unpack_the_location_escapes = refused _ refl;
  unpack_the_location_stays_in_a_local = refused _ refl;
  unpack_a_local_of_an_outer_location = accepted _ refl;
  unpack_the_promise_of_a_signature_is_outside = refused _ refl;
  unpack_results_raised = accepted _ refl;
  unpack_results_are_of_the_outside = refused _ refl;
  split_of_an_unr_ref = refused _ refl;
  split_of_a_linear_ref_of_U = refused _ refl;
  the_ptr_may_be_dropped_the_cap_may_not = refused _ refl;
  join_operand_type_of_the_deeper = refused _ refl;
  join_a_linear_ptr = refused _ refl;
  join_another_location = refused _ refl;
  cap_split_of_a_read_cap = refused _ refl;
  cap_join_of_a_whole_cap = refused _ refl;
  cap_join_privilege_before_locations_differ = refused _ refl;
  cap_join_another_location = refused _ refl;
  cap_join_gives_a_whole_cap = accepted _ refl;
  the_order_of_cap_and_own = refused _ refl;
  the_ref_is_left = refused _ refl;
  the_ref_is_left_in_a_local = refused _ refl;
  the_ref_leaves_its_binder = refused _ refl;
}
