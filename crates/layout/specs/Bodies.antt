-- The instructions of a body with those of its nested lists, and whether a list was ended. This project's own.
use Rattle.std.specs.Prelude.{ℕ, suc, ◌+◌, List, [], ◌∷◌, ◌++◌, Bool, true, false}
use Rattle.rw_types.specs.declared.instrs.Instr.{Instr, Unreachable, Br, Return, Block', Loop', If', MemUnpack', VariantCase', ExistUnpack', Row_of-Instr, end_of-Instr, more_of-Instr, Row_of-Instr-VariantCase-1-1, end_of-Instr-VariantCase-1-1, more_of-Instr-VariantCase-1-1}

abbrev mutual
  -- the instructions of the lists of an instruction, in the order of the text
  pub nested : Instr → List Instr
  nested (Block' sig n body) = nested_row body
  nested (Loop' sig n body) = nested_row body
  nested (If' sig n one m other) = nested_row one ++ nested_row other
  nested (MemUnpack' sig n body) = nested_row body
  nested (VariantCase' sig n arms) = nested_rows arms
  nested (ExistUnpack' sig n body) = nested_row body
  nested _ = []

  -- those of one list
  pub nested_row : {n : _} → Row_of-Instr n → List Instr
  nested_row end_of-Instr = []
  nested_row (more_of-Instr i is) = i ∷ (nested i ++ nested_row is)

  -- those of the lists of all cases
  pub nested_rows : {n : _} → Row_of-Instr-VariantCase-1-1 n → List Instr
  nested_rows end_of-Instr-VariantCase-1-1 = []
  nested_rows (more_of-Instr-VariantCase-1-1 n arm arms) = nested_row arm ++ nested_rows arms

-- all instructions of a body in the order of the text, which is that of its notes
abbrev pub text_order : List Instr → List Instr
text_order [] = []
text_order (i ∷ is) = i ∷ (nested i ++ text_order is)

abbrev mutual
  -- how many instructions stand in the lists of an instruction, those of lists within them too
  pub nested_count : Instr → ℕ
  nested_count (Block' sig n body) = row_count body
  nested_count (Loop' sig n body) = row_count body
  nested_count (If' sig n one m other) = row_count one + row_count other
  nested_count (MemUnpack' sig n body) = row_count body
  nested_count (VariantCase' sig n arms) = rows_count arms
  nested_count (ExistUnpack' sig n body) = row_count body
  nested_count _ = 0

  -- in one list
  pub row_count : {n : _} → Row_of-Instr n → ℕ
  row_count end_of-Instr = 0
  row_count (more_of-Instr i is) = suc (nested_count i + row_count is)

  -- in the lists of all cases
  pub rows_count : {n : _} → Row_of-Instr-VariantCase-1-1 n → ℕ
  rows_count end_of-Instr-VariantCase-1-1 = 0
  rows_count (more_of-Instr-VariantCase-1-1 n arm arms) = row_count arm + rows_count arms

-- whether an instruction ends its list
abbrev pub ends_list : Instr → Bool
ends_list Unreachable = true
ends_list (Br n) = true
ends_list Return = true
ends_list _ = false

-- whether a list was ended: nothing follows such an instruction
abbrev pub is_ended : List Instr → Bool
is_ended [] = false
is_ended (i ∷ []) = ends_list i
is_ended (i ∷ j ∷ is) = is_ended (j ∷ is)
