-- The frame of a lowered function: Wasm locals of 64 bits for its parameter words, its slot words, its operand words, and
-- two scratch words, side by side. This project's own.
use Rattle.std.specs.Prelude.{ℕ, ◌+◌, max, map, sum, List, [], ◌∷◌, ◌++◌, if◌then◌else◌}
use Rattle.rw_types.specs.declared.instrs.Instr.{Instr, StructSwap}
use Rattle.rw_types.specs.declared.types.Heap.{Struct'}
use Rattle.rw_types.specs.declared.types.Pre.{Ref}
use Rattle.rw_types.specs.declared.types.Ty.{Ty, Of}
use Rattle.rich_types.specs.Scopes.{Scope, no_scope, scope_of}
use Rattle.rich_types.specs.Sizes.{size_under, list_size}
use Rattle.rich_typing.specs.declared.notes.Note.{Note}
use Rattle.rw_program.specs.declared.linked.LinkedFunc.{LinkedFunc}
use Rattle.rw_program.specs.declared.linked.LinkedGlobal.{LinkedGlobal}
use Rattle.rw_program.specs.Programs.{Program}
use Rattle.layout.specs.Bodies.{is_ended, text_order}
use Rattle.layout.specs.Cells.{offsets_from, value_words_in}

-- the words of what an instruction takes
abbrev pub taken_words : Note → ℕ
taken_words note = list_size (scope_of note.binders) note.taken

-- how many words stand in the frame's operands before an instruction
abbrev pub words_before : Note → ℕ
words_before note = note.beneath + taken_words note

-- the words of the value in a slot of the struct to which the deepest of these operands refers
abbrev pub old_words : Scope → List Ty → ℕ → ℕ
old_words c (Of q (Ref p l (Struct' n slots)) ∷ ts) k = value_words_in c slots k
old_words c _ k = 0

-- how many words stand there at most: in a swap there is a moment at which the old value stands above the new one
abbrev pub height_of : Instr → Note → ℕ
height_of (StructSwap k) note = words_before note + old_words (scope_of note.binders) note.taken k
height_of _ note = words_before note

-- the greatest of the heights of these instructions, each with its note, and of the height at the end
abbrev pub greatest_height : List Instr → List Note → ℕ → ℕ
greatest_height [] notes end = end
greatest_height (i ∷ is) [] end = end
greatest_height (i ∷ is) (note ∷ notes) end = max (height_of i note) (greatest_height is notes end)

-- the words of a function's parameters, and of its results
abbrev pub parameter_words : LinkedFunc → ℕ
parameter_words f = list_size (scope_of f.ty.binders) f.ty.params

abbrev pub result_words : LinkedFunc → ℕ
result_words f = list_size (scope_of f.ty.binders) f.ty.results

-- the result words that stand at the end of a function's list: none where it was ended
abbrev pub end_words : LinkedFunc → ℕ
end_words f = if is_ended f.body then 0 else result_words f

-- the operand words of a function's frame
abbrev pub room_of : LinkedFunc → ℕ
room_of f = greatest_height (text_order f.body) f.notes (end_words f)

-- the words of a global
abbrev pub global_words : LinkedGlobal → ℕ
global_words g = size_under no_scope g.ty

-- the operand words of the exported main's frame: of the initialisers, each with the words of its global
abbrev pub initialiser_room : List LinkedGlobal → ℕ
initialiser_room [] = 0
initialiser_room (g ∷ gs) = max (greatest_height (text_order g.body) g.notes (global_words g)) (initialiser_room gs)

-- the first Wasm local of the parameters, of each declared local, of the operands and of the scratch words, and how many
-- Wasm locals there are
pub record FrameMap : Type 0 where
  pub params : ℕ
  pub slots : List ℕ
  pub operands : ℕ
  pub scratch : ℕ
  pub total : ℕ

-- so many parameter words, slots of these sizes, and so many operand words
abbrev pub laid_out : ℕ → List ℕ → ℕ → FrameMap
laid_out params sizes room = record {
  params = 0;
  slots = offsets_from params sizes;
  operands = params + sum sizes;
  scratch = params + sum sizes + room;
  total = params + sum sizes + room + 2;
}

-- the frame of a linked function
abbrev pub function_frame : LinkedFunc → FrameMap
function_frame f = laid_out (parameter_words f) f.locals (room_of f)

-- the frame of the exported main
abbrev pub start_frame : Program → FrameMap
start_frame p = laid_out 0 [] (initialiser_room p.globals)

-- the first Wasm local of each local of a function: of its parameters, and of those declared
abbrev pub local_places : LinkedFunc → List ℕ
local_places f = offsets_from 0 (map (size_under (scope_of f.ty.binders)) f.ty.params ++ f.locals)
