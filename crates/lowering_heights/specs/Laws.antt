-- Each point of a body has its words within its frame, whose parts lie side by side. This project's own.
use Rattle.std.specs.Prelude.{◌≡◌, ◌≤◌, ◌<◌, ℕ, ◌+◌, List, [], None, Some, slice_get, sum}
use Rattle.rw_types.specs.declared.instrs.Instr.{Instr}
use Rattle.rich_typing.specs.declared.notes.Note.{Note}
use Rattle.rich_rules.specs.Points.{Demand, Frame, OfFunction, OfGlobal, Point}
use Rattle.rich_rules.specs.Table.{note_of}
use Rattle.rich_rules.specs.Derivations.{Derives}
use Rattle.rich_rules.specs.Modules.{function_start, function_type_broken, initialiser_start, slots_of_locals}
use Rattle.rich_rules_formed.specs.Formed.{IsFormedPoint}
use Rattle.rich_rules_formed.specs.Standing.{Stands}
use Rattle.rw_program.specs.declared.linked.LinkedFunc.{LinkedFunc}
use Rattle.rw_program.specs.declared.linked.LinkedGlobal.{LinkedGlobal}
use Rattle.rw_program.specs.Linking.{func_of}
use Rattle.rw_program.specs.Programs.{Program}
use Rattle.rich_linking.specs.TypedPrograms.{IsTypedProgram, linked_frame, types_of_functions, types_of_globals}
use Rattle.layout.specs.Bodies.{text_order}
use Rattle.layout.specs.Cells.{offsets_from}
use Rattle.layout.specs.Frames.{function_frame, greatest_height, initialiser_room, local_places, room_of, words_before}
use Rattle.lowering_heights.specs.Heights.{end_height, height_at}

-- at each point of a list that has a derivation stand no more words than the greatest of its heights
abbrev pub PointsAreWithin : Type 0
PointsAreWithin = (f : Frame) (d : Demand) (p : Point) (is : List Instr) (notes : List Note) (q : Point) → IsFormedPoint p → Derives f d p is notes → Stands f p is q →
    height_at q ≤ greatest_height (text_order is) notes (end_height is d p)

-- the note of a point tells how many words stand there
abbrev pub NotesTellHeights : Type 0
NotesTellHeights = (f : Frame) (p : Point) (i : Instr) → words_before (note_of f p i) ≡ height_at p

-- the frames in which the rules see the bodies of a program
abbrev pub frame_of_function : Program → LinkedFunc → Frame
frame_of_function p g = linked_frame (types_of_functions p.funcs) (types_of_globals p.globals) (slots_of_locals (func_of g)) OfFunction

abbrev pub frame_of_initialiser : Program → ℕ → Frame
frame_of_initialiser p n = linked_frame (types_of_functions p.funcs) (types_of_globals p.globals) [] (OfGlobal n)

-- a function's frame has room for the operands of each point of its body
abbrev pub FunctionsHoldTheirOperands : Type 0
FunctionsHoldTheirOperands = (p : Program) (n : ℕ) (g : LinkedFunc) (q : Point) → IsTypedProgram p → slice_get p.funcs n ≡ Some g → function_type_broken g.ty ≡ None →
    Stands (frame_of_function p g) (function_start (func_of g)) g.body q → height_at q ≤ room_of g

-- and the frame of the exported main for those of each initialiser
abbrev pub InitialisersHoldTheirOperands : Type 0
InitialisersHoldTheirOperands = (p : Program) (n : ℕ) (g : LinkedGlobal) (q : Point) → IsTypedProgram p → slice_get p.globals n ≡ Some g →
    Stands (frame_of_initialiser p n) initialiser_start g.body q → height_at q ≤ initialiser_room p.globals

-- parts of these sizes that lie side by side from a word on: each stands within them all, and ends before a later one begins
abbrev pub PartsLieApart : Type 0
PartsLieApart = (at : ℕ) (sizes : List ℕ) (i m k : ℕ) → slice_get (offsets_from at sizes) i ≡ Some m → slice_get sizes i ≡ Some k →
    (m + k ≤ at + sum sizes) × ((j n : ℕ) → i < j → slice_get (offsets_from at sizes) j ≡ Some n → m + k ≤ n)

-- a function's frame: the words of each local end where those of the operands begin or before, and then come the scratch words
pub record HoldsItsParts (g : LinkedFunc) : Type 0 where
  pub locals : (n m k : ℕ) → slice_get (local_places g) n ≡ Some m → slice_get (slots_of_locals (func_of g)) n ≡ Some k → m + k ≤ (function_frame g).operands
  pub operands : (function_frame g).operands + room_of g ≡ (function_frame g).scratch
  pub scratch : (function_frame g).scratch + 2 ≡ (function_frame g).total

abbrev pub FramesHoldTheirParts : Type 0
FramesHoldTheirParts = (g : LinkedFunc) → HoldsItsParts g
