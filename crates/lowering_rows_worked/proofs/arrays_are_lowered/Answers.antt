use Rattle.lowering_rows_worked.proofs.ArraysRows.{array_of_pairs, array_past_its_end, wordless_array}
use Rattle.lowering_rows_worked.proofs.arrays_are_lowered.Goals as goal

pub returns-clause-wordless_array : goal.returns-clause-wordless_array
returns-clause-wordless_array c = wordless_array

pub returns-clause-array_of_pairs : goal.returns-clause-array_of_pairs
returns-clause-array_of_pairs c = array_of_pairs

pub returns-clause-array_past_its_end : goal.returns-clause-array_past_its_end
returns-clause-array_past_its_end c = array_past_its_end
