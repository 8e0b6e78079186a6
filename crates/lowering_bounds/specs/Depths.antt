-- How deep the lists of a body nest. This project's own.
use Rattle.std.specs.Prelude.{ℕ, suc, ◌≤◌, max, List, [], ◌∷◌, ⊤}
use Rattle.rw_types.specs.declared.instrs.Instr.{Instr, Block', Loop', If', MemUnpack', VariantCase', ExistUnpack', Row_of-Instr, end_of-Instr, more_of-Instr, Row_of-Instr-VariantCase-1-1, end_of-Instr-VariantCase-1-1, more_of-Instr-VariantCase-1-1}
use Rattle.rw_program.specs.declared.linked.LinkedGlobal.{LinkedGlobal}

abbrev mutual
  -- how many instructions with lists are open at once in an instruction, itself counted
  pub depth : Instr → ℕ
  depth (Block' sig n body) = suc (row_depth body)
  depth (Loop' sig n body) = suc (row_depth body)
  depth (If' sig n one m other) = suc (max (row_depth one) (row_depth other))
  depth (MemUnpack' sig n body) = suc (row_depth body)
  depth (VariantCase' sig n arms) = suc (rows_depth arms)
  depth (ExistUnpack' sig n body) = suc (row_depth body)
  depth _ = 0

  -- in one list
  pub row_depth : {n : _} → Row_of-Instr n → ℕ
  row_depth end_of-Instr = 0
  row_depth (more_of-Instr i is) = max (depth i) (row_depth is)

  -- in the lists of all cases
  pub rows_depth : {n : _} → Row_of-Instr-VariantCase-1-1 n → ℕ
  rows_depth end_of-Instr-VariantCase-1-1 = 0
  rows_depth (more_of-Instr-VariantCase-1-1 n arm arms) = max (row_depth arm) (rows_depth arms)

-- in a body
abbrev pub list_depth : List Instr → ℕ
list_depth [] = 0
list_depth (i ∷ is) = max (depth i) (list_depth is)

-- the most instructions with lists that are open at once in a body that is lowered
abbrev pub depth_limit : ℕ
depth_limit = 450

-- the initialisers of these globals keep that limit
abbrev pub AreWithinDepth : List LinkedGlobal → Type 0
AreWithinDepth [] = ⊤
AreWithinDepth (g ∷ gs) = (list_depth g.body ≤ depth_limit) × AreWithinDepth gs
