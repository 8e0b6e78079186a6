-- Which instructions the rules of cells are about, and what an answer says of the table of the rules. This project's own.
use Rattle.std.specs.Prelude.{◌≡◌, List, Bool, true, false, Result}
use Rattle.rw_types.specs.declared.instrs.Instr.{Instr, RefSplit, RefJoin, CapSplit, CapJoin, StructMalloc, StructFree, StructGet, StructSet, StructSwap, VariantMalloc, ArrayMalloc, ArrayGet, ArraySet, ArrayLen, ArrayFree, ExistPack}
use Rattle.rw_types.specs.declared.types.Binder.{Binder}
use Rattle.rw_types.specs.declared.types.Ty.{Ty}
use Rattle.rich_types.specs.Scopes.{Scope}
use Rattle.rich_rules.specs.Points.{Frame, Point, Outcome, Ends}
use Rattle.rich_rules.specs.Table.{row}
use Rattle.rich_rules.specs.Rights.{ref_split_row, ref_join_row, cap_split_row, cap_join_row}
use Rattle.rich_rules.specs.Structs.{struct_malloc_row, struct_free_row, struct_get_row, struct_set_row, struct_swap_row}
use Rattle.rich_rules.specs.Cells.{variant_malloc_row, array_malloc_row, array_get_row, array_set_row, array_len_row, array_free_row, exist_pack_row}
use Rattle.rw_row_answers.specs.declared.answers.CapError.{CapError}
use Rattle.rw_heap_rows.specs.Rows.{Says}

-- whether an instruction is on cells, or on the rights to them, and has no lists in it
abbrev pub is_on_cells : Instr → Bool
is_on_cells RefSplit = true
is_on_cells RefJoin = true
is_on_cells CapSplit = true
is_on_cells CapJoin = true
is_on_cells (StructMalloc m sizes) = true
is_on_cells StructFree = true
is_on_cells (StructGet i) = true
is_on_cells (StructSet i) = true
is_on_cells (StructSwap i) = true
is_on_cells (VariantMalloc m i ts) = true
is_on_cells (ArrayMalloc m) = true
is_on_cells ArrayGet = true
is_on_cells ArraySet = true
is_on_cells ArrayLen = true
is_on_cells ArrayFree = true
is_on_cells (ExistPack m q s t body) = true
is_on_cells _ = false

-- the row of such an instruction, which looks at the binders and the operands alone
abbrev pub cell_row : Scope → Instr → List Ty → Outcome
cell_row c RefSplit operands = ref_split_row c operands
cell_row c RefJoin operands = ref_join_row operands
cell_row c CapSplit operands = cap_split_row operands
cell_row c CapJoin operands = cap_join_row operands
cell_row c (StructMalloc m sizes) operands = struct_malloc_row c m sizes operands
cell_row c StructFree operands = struct_free_row c operands
cell_row c (StructGet i) operands = struct_get_row c i operands
cell_row c (StructSet i) operands = struct_set_row c i operands
cell_row c (StructSwap i) operands = struct_swap_row c i operands
cell_row c (VariantMalloc m i ts) operands = variant_malloc_row c m i ts operands
cell_row c (ArrayMalloc m) operands = array_malloc_row c m operands
cell_row c ArrayGet operands = array_get_row c operands
cell_row c ArraySet operands = array_set_row c operands
cell_row c ArrayLen operands = array_len_row c operands
cell_row c ArrayFree operands = array_free_row c operands
cell_row c (ExistPack m q s t body) operands = exist_pack_row c m q s t body operands
cell_row c _ operands = Ends

-- at each point with these binders and operands, the row of the table gives the operands after it and changes no local; or
-- it breaks the rule that is told
abbrev pub Applies : {A : Type 0} → Result A CapError → List Binder → List Ty → Instr → List Ty → Type 0
Applies r binders operands i after = (f : Frame) (p : Point) → p.binders ≡ binders → p.operands ≡ operands → Says r (row f p i) after
