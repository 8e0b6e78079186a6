-- The rows, computed.
use Rattle.std.proofs.Common.{refl}
use Rattle.rw_types.specs.declared.instrs.Instr.TheBlock.{hidden-the_row-Instr-0, hidden-the_row-Instr-VariantCase-1-1-1}
use Rattle.rw_types.specs.declared.types.Heap.TheBlock.{hidden-the_row-Ty-1, hidden-the_row-Ty-2, hidden-the_row-Slot-0, hidden-the_row-FunType-3}
use Rattle.rich_types.specs.Walks.{below_location, below_variable}
use Rattle.rich_rules.specs.Table.{row, takes}
use Rattle.rich_rules_rows.proofs.Read.{accepted, refused}
use Rattle.rich_rules_rows.specs.Programs.{WorkedPrograms}

pub rows : WorkedPrograms
unfolding row takes hidden-the_row-Instr-0 hidden-the_row-Instr-VariantCase-1-1-1 hidden-the_row-Ty-1 hidden-the_row-Ty-2 hidden-the_row-Slot-0 hidden-the_row-FunType-3 below_location below_variable denote.Hole.Carrier.hidden
rows = record {
  a_cell_is_written_and_freed = accepted _ refl;
  a_slot_is_too_small = refused _ refl;
  an_address_outlives_its_cell = accepted _ refl;
  an_address_of_another_location = refused _ refl;
  a_cell_is_freed_twice = refused _ refl;
  a_branch_leaves_a_cell_behind = refused _ refl;
  a_branch_leaves_a_linear_number_behind = refused _ refl;
}
