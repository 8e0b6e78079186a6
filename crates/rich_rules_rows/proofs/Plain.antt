-- The rows, computed.
use Rattle.std.proofs.Common.{refl}
use Rattle.rw_types.specs.declared.instrs.Instr.TheBlock.{hidden-the_row-Instr-0, hidden-the_row-Instr-VariantCase-1-1-1}
use Rattle.rw_types.specs.declared.types.Heap.TheBlock.{hidden-the_row-Ty-1, hidden-the_row-Ty-2, hidden-the_row-Slot-0, hidden-the_row-FunType-3}
use Rattle.rich_types.specs.Walks.{below_location, below_variable}
use Rattle.rich_rules.specs.Table.{row, takes}
use Rattle.rich_rules_rows.proofs.Read.{accepted, refused}
use Rattle.rich_rules_rows.specs.Plain.{WorkedPlain}

pub rows : WorkedPlain
unfolding row takes hidden-the_row-Instr-0 hidden-the_row-Instr-VariantCase-1-1-1 hidden-the_row-Ty-1 hidden-the_row-Ty-2 hidden-the_row-Slot-0 hidden-the_row-FunType-3 below_location below_variable denote.Hole.Carrier.hidden
rows = record {
  dead_before_index = refused _ refl;
  dead_after_br_in_a_block = refused _ refl;
  type_form_before_operands = refused _ refl;
  no_rec_before_operands = refused _ refl;
  no_rec_and_ill_formed = refused _ refl;
  operands_of_a_fold = refused _ refl;
  operand_type_of_a_fold = refused _ refl;
  fold_and_unfold = accepted _ refl;
  operands_before_operand_type = refused _ refl;
  the_deepest_wrong_operand = refused _ refl;
  a_right_and_a_wrong_operand = refused _ refl;
  operands_of_the_list_alone = refused _ refl;
  print_of_a_linear_number = refused _ refl;
  drop_of_a_linear_number = refused _ refl;
  qualify_twice = refused _ refl;
  qualify_of_a_variable = refused _ refl;
  ungroup_of_a_rec_of_a_tuple = refused _ refl;
  ungroup_of_nothing = accepted _ refl;
  group_of_more_than_there_are = refused _ refl;
  unr_group_of_a_linear_part = refused _ refl;
  lin_group_of_unr_parts = accepted _ refl;
}
