-- The codes of a lowered module's functions: of the linked functions, and of the exported main. This project's own.
use Rattle.std.specs.Prelude.{ℕ, ◌+◌, max, List, [], ◌∷◌, ◌++◌, if◌then◌else◌, None}
use Rattle.wasm_ast.specs.declared.types.ValTy.TheVariants.{I64}
use Rattle.wasm_ast.specs.declared.instructions.WInstr as w
use Rattle.wasm_ast.specs.declared.modules.Code.{Code}
use Rattle.rich_typing.specs.Kinds.{size, words_of}
use Rattle.rw_program.specs.declared.linked.LinkedFunc.{LinkedFunc}
use Rattle.rw_program.specs.declared.linked.LinkedGlobal.{LinkedGlobal}
use Rattle.rw_program.specs.Programs.{Program}
use Rattle.lowering_table.specs.Bodies.{is_ended, text_order}
use Rattle.lowering_table.specs.Frames.{Frame, room_of, first_operand, declared_locals}
use Rattle.lowering_table.specs.Rows.{rows, gives}

-- Wasm functions before the linked ones: the print, and the three of the allocators
abbrev pub functions_before : ℕ
functions_before = 4

-- Wasm globals before the result globals: the trap code, and the next address of the unrestricted region
abbrev pub globals_before : ℕ
globals_before = 2

-- how many result words stand at the end of a function's list: none where it was ended
abbrev pub end_words : LinkedFunc → ℕ
end_words f = if is_ended f.body then 0 else words_of f.ty.binders f.ty.results

-- the words of a function's frame
abbrev pub frame_of : LinkedFunc → Frame
frame_of f = record {
  params = words_of f.ty.binders f.ty.params;
  slots = total f.locals;
  operands = room_of (text_order f.body) f.notes (end_words f);
}
  where
    total : List ℕ → ℕ
    total [] = 0
    total (s ∷ ss) = s + total ss

-- a run of 64-bit locals, and a body
abbrev pub code_of : ℕ → List w.WInstr → Code
code_of locals body = record { locals = record { count = locals; ty = I64 } ∷ []; body = body }

-- the code of a linked function: its list, and then, unless it was ended, its result words go to the result globals
abbrev pub low_function : LinkedFunc → Code
low_function f =
    let frame = frame_of f in
    code_of (declared_locals frame)
    (rows (first_operand frame) f.body f.notes ++ gives (end_words f) (first_operand frame) globals_before)

-- the greatest number of result words of a function
abbrev pub result_words : List LinkedFunc → ℕ
result_words [] = 0
result_words (f ∷ fs) = max (words_of f.ty.binders f.ty.results) (result_words fs)

-- the first values of the globals are computed one after another, each in a block, behind which they are put into the Wasm
-- globals from one on, also where the list of the block was ended
abbrev pub initialisers : ℕ → List LinkedGlobal → List w.WInstr
initialisers global [] = []
initialisers global (g ∷ gs) =
    w.Block None (rows 0 g.body g.notes) ∷ (gives (size [] g.ty) 0 global ++ initialisers (global + size [] g.ty) gs)

-- the greatest of the initialisers' heights and of the words of each global's type
abbrev pub initialiser_room : List LinkedGlobal → ℕ
initialiser_room [] = 0
initialiser_room (g ∷ gs) = max (room_of (text_order g.body) g.notes (size [] g.ty)) (initialiser_room gs)

-- the exported main: the initialisers, the program's main, and its result
abbrev pub main_code : Program → Code
main_code p = code_of (initialiser_room p.globals + 2)
    (initialisers (globals_before + result_words p.funcs) p.globals ++ (w.Call (functions_before + p.main) ∷ w.GlobalGet globals_before ∷ []))
