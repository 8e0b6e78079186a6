-- The rows, computed.
use Rattle.std.proofs.Common.{refl}
use Rattle.rw_types.specs.declared.instrs.Instr.TheBlock.{hidden-the_row-Instr-0, hidden-the_row-Instr-VariantCase-1-1-1}
use Rattle.rw_types.specs.declared.types.Heap.TheBlock.{hidden-the_row-Ty-1, hidden-the_row-Ty-2, hidden-the_row-Slot-0, hidden-the_row-FunType-3}
use Rattle.rich_types.specs.Walks.{below_location, below_variable}
use Rattle.rich_rules.specs.Table.{row, takes}
use Rattle.rich_rules_rows.proofs.Read.{accepted, refused}
use Rattle.rich_rules_rows.specs.Cells.{WorkedCells}

pub rows : WorkedCells
unfolding row takes hidden-the_row-Instr-0 hidden-the_row-Instr-VariantCase-1-1-1 hidden-the_row-Ty-1 hidden-the_row-Ty-2 hidden-the_row-Slot-0 hidden-the_row-FunType-3 below_location below_variable denote.Hole.Carrier.hidden
rows = record {
  malloc_operands = refused _ refl;
  malloc_slot_size_the_deepest = refused _ refl;
  malloc_slot_size_before_the_given_type = refused _ refl;
  malloc_10000_words = accepted _ refl;
  malloc_10001_words = refused _ refl;
  get_of_an_array = refused _ refl;
  get_of_a_hidden_ref = refused _ refl;
  get_slot_before_linear_copy = refused _ refl;
  get_of_a_linear_slot = refused _ refl;
  set_slot_before_slot_type = refused _ refl;
  set_linear_drop_before_slot_type = refused _ refl;
  swap_slot_type = refused _ refl;
  swap_of_a_linear_slot_in_U = accepted _ refl;
  a_slot_wider_than_its_type_keeps_its_type_in_U = refused _ refl;
  variant_index_before_type_form = refused _ refl;
  variant_type_form_of_a_later_case = refused _ refl;
  variant_operand_type = refused _ refl;
  variant_a_linear_case_in_U = refused _ refl;
  case_too_few_lists = refused _ refl;
  case_operand_type_before_arms = refused _ refl;
  case_the_second_list_differs = refused _ refl;
  case_with_a_parameter = accepted _ refl;
  array_operand_type_before_linear_copy = refused _ refl;
  array_linear_copy = refused _ refl;
  array_of_10000_words = refused _ refl;
  array_set_the_index_is_deeper = refused _ refl;
  array_set_the_element = refused _ refl;
  array_len_of_a_struct = refused _ refl;
  exist_pack_qualifier_before_size_both_before_operands = refused _ refl;
  exist_pack_size_before_operands = refused _ refl;
  exist_pack_type_form_of_the_hidden_type_before_that_of_the_body = refused _ refl;
  exist_pack_the_body_under_its_binder = refused _ refl;
  exist_pack_the_body_with_the_hidden_type_put_in = refused _ refl;
  exist_pack_a_linear_body_in_U = refused _ refl;
  exist_unpack_the_variable_escapes = refused _ refl;
  exist_unpack_the_variable_is_no_number = refused _ refl;
  exist_unpack_a_pair_of_variables = accepted _ refl;
  two_packages_are_two_types = refused _ refl;
  a_list_by_a_recursive_type = accepted _ refl;
  free_memory_before_linear_drop = refused _ refl;
  free_privilege_before_linear_drop = refused _ refl;
  free_linear_drop = refused _ refl;
  free_after_its_linear_slot_was_taken_out = accepted _ refl;
  array_free_of_U = refused _ refl;
  array_free_of_a_read_ref = refused _ refl;
  array_set_of_a_read_ref_operand_type_before_privilege = refused _ refl;
  array_set_of_a_read_ref = refused _ refl;
  set_of_a_read_ref_privilege_before_slot = refused _ refl;
  set_another_type_of_the_slot = accepted _ refl;
  set_linear_drop_before_slot_size = refused _ refl;
  swap_slot_size = refused _ refl;
  case_of_a_read_ref_privilege_before_arms = refused _ refl;
  exist_unpack_of_a_read_ref = refused _ refl;
  a_linear_case_is_taken_out = accepted _ refl;
  a_linear_case_is_left = refused _ refl;
}
