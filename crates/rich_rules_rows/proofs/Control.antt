-- The rows, computed.
use Rattle.std.proofs.Common.{refl}
use Rattle.rw_types.specs.declared.instrs.Instr.TheBlock.{hidden-the_row-Instr-0, hidden-the_row-Instr-VariantCase-1-1-1}
use Rattle.rw_types.specs.declared.types.Heap.TheBlock.{hidden-the_row-Ty-1, hidden-the_row-Ty-2, hidden-the_row-Slot-0, hidden-the_row-FunType-3}
use Rattle.rich_types.specs.Walks.{below_location, below_variable}
use Rattle.rich_rules.specs.Table.{row, takes}
use Rattle.rich_rules_rows.proofs.Read.{accepted, refused}
use Rattle.rich_rules_rows.specs.Control.{WorkedControl}

pub rows : WorkedControl
unfolding row takes hidden-the_row-Instr-0 hidden-the_row-Instr-VariantCase-1-1-1 hidden-the_row-Ty-1 hidden-the_row-Ty-2 hidden-the_row-Slot-0 hidden-the_row-FunType-3 below_location below_variable denote.Hole.Carrier.hidden
rows = record {
  index_before_type_form_in_a_signature = refused _ refl;
  a_local_twice_in_a_signature = refused _ refl;
  type_form_before_slot_size_in_a_signature = refused _ refl;
  type_form_of_a_signature_parameters_first = refused _ refl;
  slot_size_before_operands = refused _ refl;
  block_end_before_locals_end = refused _ refl;
  block_end_the_deepest_that_differs = refused _ refl;
  block_end_too_many_with_wrong_types = refused _ refl;
  a_linear_parameter_is_left = refused _ refl;
  a_block_that_changes_a_local = refused _ refl;
  a_block_that_promises_a_local = refused _ refl;
  a_block_that_keeps_its_promise = accepted _ refl;
  the_promise_of_an_ended_block = accepted _ refl;
  the_second_arm_differs = refused _ refl;
  the_locals_of_the_second_arm = refused _ refl;
  arms_that_end = accepted _ refl;
  if_without_its_number = refused _ refl;
  if_the_parameter_not_the_number = refused _ refl;
  br_of_a_body = refused _ refl;
  br_operands_before_crossed = refused _ refl;
  br_operand_type_before_crossed = refused _ refl;
  crossed_before_locals_differ = refused _ refl;
  crossed_the_deepest_of_the_list = refused _ refl;
  crossed_the_innermost_list_first = refused _ refl;
  crossed_by_return_in_a_rest = refused _ refl;
  return_crossed_before_locals_differ = refused _ refl;
  return_a_linear_local = refused _ refl;
  return_leaves_operands = accepted _ refl;
  a_rest_beneath_the_label_does_not_count = accepted _ refl;
  a_linear_operand_is_carried = accepted _ refl;
  locals_differ_at_br_the_first = refused _ refl;
  a_loop_has_the_locals_of_its_entry = refused _ refl;
  a_loop_has_its_parameters = accepted _ refl;
  br_if_gives_the_values_back = accepted _ refl;
  br_if_the_condition_is_on_top = refused _ refl;
}
