-- Instructions by the number of operands that they take, each with its row of the table; and what an answer says of a row
-- and of the operands after it. Want of memory says nothing. This project's own.
use Rattle.std.specs.Prelude.{◌≡◌, List, None, Result, Ok, Err}
use Rattle.rw_types.specs.declared.types.Ty.{Ty}
use Rattle.rich_types.specs.Scopes.{Scope}
use Rattle.rich_rules.specs.Points.{Outcome, Gives}
use Rattle.rich_rules.specs.Rights.{ref_split_row, ref_join_row, cap_split_row, cap_join_row}
use Rattle.rich_rules.specs.Cells.{array_malloc_row, array_get_row, array_len_row, array_free_row}
use Rattle.rich_rules.specs.Structs.{struct_free_row, struct_get_row, struct_set_row, struct_swap_row}
use Rattle.rw_row_answers.specs.declared.answers.CapError.{CapError}
use Rattle.rw_row_answers.specs.Answers.{Breaking}
use Rattle.rw_heap_rows.specs.declared.looks.OfOne.{OfOne}
use Rattle.rw_heap_rows.specs.declared.looks.OfOne.TheVariants.{RefSplit, CapSplit, StructFree, StructGet, ArrayLen, ArrayFree}
use Rattle.rw_heap_rows.specs.declared.looks.OfTwo.{OfTwo}
use Rattle.rw_heap_rows.specs.declared.looks.OfTwo.TheVariants.{RefJoin, CapJoin, StructSet, StructSwap, ArrayMalloc, ArrayGet}

-- the row of an instruction that takes one operand
abbrev pub one_row : Scope → OfOne → List Ty → Outcome
one_row c RefSplit operands = ref_split_row c operands
one_row c CapSplit operands = cap_split_row operands
one_row c StructFree operands = struct_free_row c operands
one_row c (StructGet i) operands = struct_get_row c i operands
one_row c ArrayLen operands = array_len_row c operands
one_row c ArrayFree operands = array_free_row c operands

-- the row of an instruction that takes two operands
abbrev pub two_row : Scope → OfTwo → List Ty → Outcome
two_row c RefJoin operands = ref_join_row operands
two_row c CapJoin operands = cap_join_row operands
two_row c (StructSet i) operands = struct_set_row c i operands
two_row c (StructSwap i) operands = struct_swap_row c i operands
two_row c (ArrayMalloc m) operands = array_malloc_row c m operands
two_row c ArrayGet operands = array_get_row c operands

-- the row gives these operands and changes no local; or it breaks the rule that is told
abbrev pub Says : {A : Type 0} → Result A CapError → Outcome → List Ty → Type 0
Says (Ok x) out ts = out ≡ Gives ts None
Says (Err e) out ts = Breaking e out
