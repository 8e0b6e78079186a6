-- The rows, computed.
use Rattle.std.proofs.Common.{refl}
use Rattle.wasm_ast.specs.declared.instructions.WInstr.{out-WInstr}
use Rattle.wasm_typing.specs.Rows.{WorkedFaults}

pub worked-faults : WorkedFaults
unfolding out-WInstr denote.Hole.Carrier.out
worked-faults = record {
  none = refl;
  imported_type = refl;
  type_index = refl;
  second_memory = refl;
  second_table = refl;
  unordered = refl;
  too_many_pages = refl;
  own_global_in_initial_value = refl;
  set_global_in_initial_value = refl;
  wide_initial_value = refl;
  exported_function = refl;
  exported_table = refl;
  exported_memory = refl;
  exported_twice = refl;
  start_is_there = refl;
  start_gives = refl;
  element_table = refl;
  element_function = refl;
  wide_offset = refl;
  segment_memory = refl;
}
