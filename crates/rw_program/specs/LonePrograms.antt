-- Linked programs of one function without parameters, locals and nested lists: those that are linked
-- and lowered so far. This project's own.
use Rattle.std.specs.Prelude.{◌≡◌, ◌≤◌, List, [], ◌∷◌, length}
use Rattle.rw_types.specs.declared.instrs.Instr.{Instr}
use Rattle.rw_types.specs.LoneMain.{ArePlain, main_type}
use Rattle.rich_typing.specs.declared.notes.Note.{Note}
use Rattle.rich_typing.specs.Derivations.{Derives}
use Rattle.rich_typing.specs.Table.{unr_i64}
use Rattle.rw_program.specs.declared.linked.LinkedFunc.{LinkedFunc}
use Rattle.rw_program.specs.Programs.{Program}

-- the function of the first file with this body and these notes, which gives one number of 64 bits
abbrev pub lone_func : List Instr → List Note → LinkedFunc
lone_func body notes = record { file = 0; ty = main_type; locals = []; body = body; notes = notes }

-- the program of that function
abbrev pub lone_program : List Instr → List Note → Program
lone_program body notes = record { funcs = lone_func body notes ∷ []; globals = []; main = 0 }

-- such a program, of at most 1,000 plain instructions that link no operands to one number, with the
-- notes of that derivation
pub record IsLoneProgram (p : Program) : Type 0 where
  pub body : List Instr
  pub notes : List Note
  pub is : p ≡ lone_program body notes
  pub plain : ArePlain body
  pub short : length body ≤ 1000
  pub derived : Derives [] body [] notes (unr_i64 ∷ [])
