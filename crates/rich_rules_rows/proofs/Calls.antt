-- The rows, computed.
use Rattle.std.proofs.Common.{refl}
use Rattle.rw_types.specs.declared.instrs.Instr.TheBlock.{hidden-the_row-Instr-0, hidden-the_row-Instr-VariantCase-1-1-1}
use Rattle.rw_types.specs.declared.types.Heap.TheBlock.{hidden-the_row-Ty-1, hidden-the_row-Ty-2, hidden-the_row-Slot-0, hidden-the_row-FunType-3}
use Rattle.rich_types.specs.Walks.{below_location, below_variable}
use Rattle.rich_rules.specs.Table.{row, takes}
use Rattle.rich_rules_rows.proofs.Read.{accepted, refused}
use Rattle.rich_rules_rows.specs.Calls.{WorkedCalls}

pub rows : WorkedCalls
unfolding row takes hidden-the_row-Instr-0 hidden-the_row-Instr-VariantCase-1-1-1 hidden-the_row-Ty-1 hidden-the_row-Ty-2 hidden-the_row-Slot-0 hidden-the_row-FunType-3 below_location below_variable denote.Hole.Carrier.hidden
rows = record {
  call_index_before_type_form_of_an_argument = refused _ refl;
  call_a_location_before_a_type = refused _ refl;
  call_type_form_before_instance = refused _ refl;
  call_instance_before_operands = refused _ refl;
  call_too_few_arguments = refused _ refl;
  call_another_qualifier = refused _ refl;
  call_another_size = refused _ refl;
  call_operands = refused _ refl;
  call_the_deepest_that_differs = refused _ refl;
  call_a_parameter_with_its_argument_put_in = refused _ refl;
  a_function_calls_itself_with_its_binder = accepted _ refl;
  two_variables_the_second_innermost = accepted _ refl;
  two_variables_in_the_wrong_order = refused _ refl;
  a_location_of_the_other_memory = refused _ refl;
  two_locations_the_last_innermost = refused _ refl;
  call_with_a_ref_and_its_location = accepted _ refl;
  coderef_of_no_function = refused _ refl;
  coderef_of_a_later_ill_formed_function = refused _ refl;
  a_call_of_a_later_function_with_an_ill_formed_binder = refused _ refl;
  inst_index_before_type_form = refused _ refl;
  inst_type_form_before_operands = refused _ refl;
  inst_operands = refused _ refl;
  inst_of_a_number = refused _ refl;
  inst_of_a_linear_code = refused _ refl;
  inst_too_many = refused _ refl;
  inst_with_a_variable = accepted _ refl;
  call_indirect_of_a_code_with_binders = refused _ refl;
  call_indirect_of_nothing = refused _ refl;
  call_indirect_operands = refused _ refl;
  call_indirect_operand_type = refused _ refl;
}
