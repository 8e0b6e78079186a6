-- The one function of a program that is lowered so far. This project's own.
use Rattle.std.specs.Prelude.{◌≡◌, ◌+◌, List, [], ◌∷◌, ◌++◌, Some, None}
use Rattle.wasm_ast.specs.declared.modules.Code.{Code}
use Rattle.wasm_ast.specs.declared.modules.WModule.{WModule}
use Rattle.rw_types.specs.declared.instrs.Instr.{Instr}
use Rattle.rw_types.specs.LoneMain.{ArePlain}
use Rattle.rich_typing.specs.declared.notes.Note.{Note}
use Rattle.rw_program.specs.declared.linked.LinkedFunc.{LinkedFunc}
use Rattle.rw_program.specs.LonePrograms.{lone_func, lone_program}
use Rattle.lowering_table.specs.Allocators.{unreachable_code}
use Rattle.lowering_table.specs.Frames.{room_of}
use Rattle.lowering_table.specs.Rows.{rows, gives}
use Rattle.lowering_table.specs.Codes.{code_of, low_function, main_code}
use Rattle.lowering_table.specs.declared.Pages.{Pages}
use Rattle.lower.specs.Heights.{AreWithin}
use Rattle.lower.specs.Parts.{lone_types, lone_imports, lone_memories, lone_globals, lone_exports, lone_elements, lone_segments}

-- a function of plain instructions that gives one word, and whose notes stay within 1,000 words
pub record IsLoneFunc (f : LinkedFunc) : Type 0 where
  pub body : List Instr
  pub notes : List Note
  pub is : f ≡ lone_func body notes
  pub plain : ArePlain body
  pub within : AreWithin 1000 notes

-- its code: a frame of no parameters and no slots, its list, and its result word, which goes to the result global
abbrev pub lone_code : List Instr → List Note → Code
lone_code body notes = code_of (0 + room_of body notes 1 + 2) (rows 0 body notes ++ gives 1 0 2)

-- the codes of a program of this function
abbrev pub lone_codes : LinkedFunc → List Code
lone_codes f = unreachable_code ∷ unreachable_code ∷ unreachable_code ∷ low_function f ∷ main_code (lone_program [] []) ∷ []

-- the lowered module of a program of this function
abbrev pub lone_module : LinkedFunc → Pages → WModule
lone_module f pages = record {
  types = lone_types;
  imports = lone_imports;
  funcs = 1 ∷ 0 ∷ 1 ∷ 2 ∷ 3 ∷ [];
  tables = record { min = 1; max = Some 1 } ∷ [];
  memories = lone_memories pages;
  globals = lone_globals pages;
  exports = lone_exports;
  start = None;
  elements = lone_elements;
  codes = lone_codes f;
  segments = lone_segments pages;
}
