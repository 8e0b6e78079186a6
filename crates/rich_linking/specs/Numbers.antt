-- Instructions whose numbers of functions and globals are others. This project's own.
use Rattle.std.specs.Prelude.{ℕ, List, [], ◌∷◌, slice_get, unwrap_or}
use Rattle.rw_types.specs.declared.instrs.Instr.{Instr, Block', Loop', If', MemUnpack', VariantCase', ExistUnpack', Call, Coderef, GlobalGet, GlobalSet, Row_of-Instr, end_of-Instr, more_of-Instr, Row_of-Instr-VariantCase-1-1, end_of-Instr-VariantCase-1-1, more_of-Instr-VariantCase-1-1}
use Rattle.rw_types.specs.declared.instrs.Instr.TheVariants.{Block, Loop, If, MemUnpack, VariantCase, ExistUnpack}

-- the new numbers of functions and of globals, by their old ones
pub record NewNumbers : Type 0 where
  pub functions : List ℕ
  pub globals : List ℕ

-- the new number; the old one where there is none
abbrev pub new_number : List ℕ → ℕ → ℕ
new_number numbers n = unwrap_or (slice_get numbers n) n

abbrev mutual
  -- an instruction with new numbers, in its lists too
  pub renumbered : NewNumbers → Instr → Instr
  renumbered k (Block' b m is) = Block b (renumbered_row k is)
  renumbered k (Loop' b m is) = Loop b (renumbered_row k is)
  renumbered k (If' b m is n js) = If b (renumbered_row k is) (renumbered_row k js)
  renumbered k (MemUnpack' b m is) = MemUnpack b (renumbered_row k is)
  renumbered k (VariantCase' b m rows) = VariantCase b (renumbered_rows k rows)
  renumbered k (ExistUnpack' b m is) = ExistUnpack b (renumbered_row k is)
  renumbered k (Call n args) = Call (new_number k.functions n) args
  renumbered k (Coderef n) = Coderef (new_number k.functions n)
  renumbered k (GlobalGet n) = GlobalGet (new_number k.globals n)
  renumbered k (GlobalSet n) = GlobalSet (new_number k.globals n)
  renumbered k i = i

  -- instructions
  pub renumbered_row : {n : _} → NewNumbers → Row_of-Instr n → List Instr
  renumbered_row k end_of-Instr = []
  renumbered_row k (more_of-Instr i is) = renumbered k i ∷ renumbered_row k is

  -- lists of instructions
  pub renumbered_rows : {n : _} → NewNumbers → Row_of-Instr-VariantCase-1-1 n → List (List Instr)
  renumbered_rows k end_of-Instr-VariantCase-1-1 = []
  renumbered_rows k (more_of-Instr-VariantCase-1-1 m is rest) = renumbered_row k is ∷ renumbered_rows k rest

-- a list of instructions
abbrev pub renumbered_list : NewNumbers → List Instr → List Instr
renumbered_list k [] = []
renumbered_list k (i ∷ is) = renumbered k i ∷ renumbered_list k is
