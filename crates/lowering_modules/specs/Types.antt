-- The types of a lowered module's functions and indirect calls, by first use. This project's own.
use Rattle.std.specs.Prelude.{ℕ, map, flat_map, List, [], ◌∷◌, ◌++◌}
use Rattle.wasm_ast.specs.declared.types.FuncType.{FuncType}
use Rattle.rw_types.specs.declared.instrs.Instr.{Instr, CallIndirect}
use Rattle.rich_typing.specs.declared.notes.Note.{Note}
use Rattle.rw_program.specs.declared.linked.LinkedFunc.{LinkedFunc}
use Rattle.rw_program.specs.Programs.{Program}
use Rattle.layout.specs.Bodies.{text_order}
use Rattle.layout.specs.Frames.{parameter_words}
use Rattle.lowering_table.specs.TypeUses.{first_uses, type_index}
use Rattle.lowering_table.specs.Types.{alloc_type, start_type}
use Rattle.lowering_rows.specs.Taken.{words_under_top}
use Rattle.lowering_rows_typed.specs.Contexts.{taking_words}

-- a function takes its parameter words; results go through globals
abbrev pub function_type : LinkedFunc → FuncType
function_type f = taking_words (parameter_words f)

-- the type by which an instruction calls: of a call through a type, whose last word is the function's number
abbrev pub called_type : Instr → Note → List FuncType
called_type CallIndirect note = taking_words (words_under_top note) ∷ []
called_type _ note = []

-- the types by which these instructions call, each with its note
abbrev pub called_types : List Instr → List Note → List FuncType
called_types [] notes = []
called_types (i ∷ is) [] = []
called_types (i ∷ is) (note ∷ notes) = called_type i note ++ called_types is notes

-- those of a function's body
abbrev pub calls_of : LinkedFunc → List FuncType
calls_of f = called_types (text_order f.body) f.notes

-- the types of the print and of the allocators, of the linked functions, of the exported main, and of the calls of all bodies
abbrev pub used_types : Program → List FuncType
used_types p = taking_words 1 ∷ alloc_type ∷ (map function_type p.funcs ++ start_type ∷ flat_map calls_of p.funcs)

-- each once, by first use
abbrev pub module_types : Program → List FuncType
module_types p = first_uses [] (used_types p)

-- the index of the type that takes so many words and gives nothing
abbrev pub index_of_words : Program → ℕ → ℕ
index_of_words p words = type_index (taking_words words) (module_types p)
