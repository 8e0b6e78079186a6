-- The rows, computed.
use Rattle.std.proofs.Common.{refl}
use Rattle.rw_types.specs.declared.instrs.Instr.TheBlock.{hidden-the_row-Instr-0, hidden-the_row-Instr-VariantCase-1-1-1}
use Rattle.rw_types.specs.declared.types.Heap.TheBlock.{hidden-the_row-Ty-1, hidden-the_row-Ty-2, hidden-the_row-Slot-0, hidden-the_row-FunType-3}
use Rattle.rich_types.specs.Walks.{below_location, below_variable}
use Rattle.rich_rules.specs.Table.{row, takes}
use Rattle.rich_rules_rows.proofs.Read.{accepted, refused}
use Rattle.rich_rules_rows.specs.Variables.{WorkedVariables}

pub rows : WorkedVariables
unfolding row takes hidden-the_row-Instr-0 hidden-the_row-Instr-VariantCase-1-1-1 hidden-the_row-Ty-1 hidden-the_row-Ty-2 hidden-the_row-Slot-0 hidden-the_row-FunType-3 below_location below_variable denote.Hole.Carrier.hidden
rows = record {
  get_of_a_linear_local = refused _ refl;
  take_of_an_unr_local = refused _ refl;
  take_twice = refused _ refl;
  get_after_take = accepted _ refl;
  set_linear_drop_before_slot_size = refused _ refl;
  set_slot_size = refused _ refl;
  set_index_before_operands = refused _ refl;
  set_operands = refused _ refl;
  set_of_another_type_of_its_size = accepted _ refl;
  a_slot_of_no_words_for_a_number = refused _ refl;
  a_variable_has_its_own_slot = refused _ refl;
  set_of_a_const_global = refused _ refl;
  const_global_before_operands = refused _ refl;
  index_before_const_global = refused _ refl;
  set_operand_type = refused _ refl;
}
