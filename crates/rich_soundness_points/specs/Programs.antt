-- What is asked of a linked program: its bodies have derivations, its types are well formed, and its constants fit their types.
-- This project's own.
use Rattle.std.specs.Prelude.{◌≡◌, ℕ, List, [], ◌∷◌, None, Some, slice_get, ⊤}
use Rattle.wasm_operators.specs.declared.Width.TheVariants.{W32, W64}
use Rattle.wasm_num.specs.Widths.{IsWithin}
use Rattle.rw_types.specs.declared.instrs.Instr.{Instr, I32Const, I64Const, Block', Loop', If', MemUnpack', VariantCase', ExistUnpack', Row_of-Instr, end_of-Instr, more_of-Instr, Row_of-Instr-VariantCase-1-1, end_of-Instr-VariantCase-1-1, more_of-Instr-VariantCase-1-1}
use Rattle.rw_program.specs.declared.linked.LinkedFunc.{LinkedFunc}
use Rattle.rw_program.specs.declared.linked.LinkedGlobal.{LinkedGlobal}
use Rattle.rw_program.specs.Linking.{global_of}
use Rattle.rw_program.specs.Programs.{Program}
use Rattle.rich_rules.specs.Modules.{function_type_broken, global_broken}
use Rattle.rich_linking.specs.TypedPrograms.{IsTypedProgram}

abbrev mutual
  -- the constants of an instruction and of its lists are within the widths of their types
  pub Fits : Instr → Type 0
  Fits (I32Const n) = IsWithin W32 n
  Fits (I64Const n) = IsWithin W64 n
  Fits (Block' b m is) = RowFits is
  Fits (Loop' b m is) = RowFits is
  Fits (If' b m is n js) = RowFits is × RowFits js
  Fits (MemUnpack' b m is) = RowFits is
  Fits (VariantCase' b m rows) = RowsFit rows
  Fits (ExistUnpack' b m is) = RowFits is
  Fits i = ⊤

  -- of instructions
  pub RowFits : {n : _} → Row_of-Instr n → Type 0
  RowFits end_of-Instr = ⊤
  RowFits (more_of-Instr i is) = Fits i × RowFits is

  -- of lists of instructions
  pub RowsFit : {n : _} → Row_of-Instr-VariantCase-1-1 n → Type 0
  RowsFit end_of-Instr-VariantCase-1-1 = ⊤
  RowsFit (more_of-Instr-VariantCase-1-1 m is rest) = RowFits is × RowsFit rest

-- of a list of instructions
abbrev pub AllFit : List Instr → Type 0
AllFit [] = ⊤
AllFit (i ∷ is) = Fits i × AllFit is

-- a program that is sound
pub record IsSound (p : Program) : Type 0 where
  pub typed : IsTypedProgram p
  pub function_types : (n : ℕ) (f : LinkedFunc) → slice_get p.funcs n ≡ Some f → function_type_broken f.ty ≡ None
  pub global_types : (n : ℕ) (g : LinkedGlobal) → slice_get p.globals n ≡ Some g → global_broken (global_of g) ≡ None
  pub functions_fit : (n : ℕ) (f : LinkedFunc) → slice_get p.funcs n ≡ Some f → AllFit f.body
  pub globals_fit : (n : ℕ) (g : LinkedGlobal) → slice_get p.globals n ≡ Some g → AllFit g.body
