-- The rows, computed.
use Rattle.std.proofs.Common.{refl}
use Rattle.rw_types.specs.declared.instrs.Instr.TheBlock.{hidden-the_row-Instr-0, hidden-the_row-Instr-VariantCase-1-1-1}
use Rattle.rw_types.specs.declared.types.Heap.TheBlock.{hidden-the_row-Ty-1, hidden-the_row-Ty-2, hidden-the_row-Slot-0, hidden-the_row-FunType-3}
use Rattle.rich_types.specs.Walks.{below_location, below_variable}
use Rattle.rich_rules.specs.Table.{row, takes}
use Rattle.rich_rules_rows.proofs.Read.{accepted, refused}
use Rattle.rich_rules_rows.specs.Fields.{WorkedFields}

pub rows : WorkedFields
unfolding row takes hidden-the_row-Instr-0 hidden-the_row-Instr-VariantCase-1-1-1 hidden-the_row-Ty-1 hidden-the_row-Ty-2 hidden-the_row-Slot-0 hidden-the_row-FunType-3 below_location below_variable denote.Hole.Carrier.hidden
rows = record {
  a_place_before_a_later_field = refused _ refl;
  a_field_before_its_body = refused _ refl;
  the_second_parameter_is_ill_formed = refused _ refl;
  a_slot_of_10001 = refused _ refl;
  a_slot_of_10000 = accepted _ refl;
  a_binder_of_10001_words = accepted _ refl;
  a_variable_of_10001_words = refused _ refl;
  an_export_of_no_function = refused _ refl;
  an_export_name_twice = refused _ refl;
  an_export_index_before_duplicate = refused _ refl;
  initialiser_before_index = refused _ refl;
  dead_code_before_initialiser = refused _ refl;
  return_in_a_block_of_an_initialiser = refused _ refl;
  its_own_number = refused _ refl;
  a_global_out_of_range = refused _ refl;
  global_set_of_a_later_global = accepted _ refl;
  signature_of_an_initialiser_names_a_local = refused _ refl;
  block_end_of_an_initialiser = refused _ refl;
  a_linear_global = refused _ refl;
  type_form_before_linear_global = refused _ refl;
  linear_global_before_its_initialiser = refused _ refl;
  get_of_a_linear_global_refused_at_the_global = refused _ refl;
  get_of_an_ill_formed_global = refused _ refl;
  an_import_is_ill_formed = refused _ refl;
  a_binder_of_an_import = refused _ refl;
  an_export_of_an_import = refused _ refl;
  the_place_counts_the_imports = refused _ refl;
}
