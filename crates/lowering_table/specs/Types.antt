-- The types of a lowered module's functions and indirect calls. This project's own.
use Rattle.std.specs.Prelude.{◌-◌, map, replicate, List, [], ◌∷◌, ◌++◌, Some, None}
use Rattle.std.specs.List.{flat_map}
use Rattle.wasm_ast.specs.declared.types.ValTy.TheVariants.{I64}
use Rattle.wasm_ast.specs.declared.types.FuncType.{FuncType}
use Rattle.rw_types.specs.declared.instrs.Instr.{Instr, CallIndirect}
use Rattle.rich_typing.specs.declared.notes.Note.{Note}
use Rattle.rich_typing.specs.Kinds.{words_of}
use Rattle.rw_program.specs.declared.linked.LinkedFunc.{LinkedFunc}
use Rattle.rw_program.specs.Programs.{Program}
use Rattle.lowering_table.specs.Bodies.{text_order}
use Rattle.lowering_table.specs.TypeUses.{first_uses}

-- one i64 to nothing, one i64 to one i64, and nothing to one i64
abbrev pub print_type : FuncType
print_type = record { params = I64 ∷ []; result = None }

abbrev pub alloc_type : FuncType
alloc_type = record { params = I64 ∷ []; result = Some I64 }

abbrev pub start_type : FuncType
start_type = record { params = []; result = Some I64 }

-- the parameter words; results go through globals
abbrev pub low_type : LinkedFunc → FuncType
low_type f = record { params = replicate (words_of f.ty.binders f.ty.params) I64; result = None }

-- the type by which an instruction calls, by its note: of an indirect call, whose last word is the function's number
abbrev pub called_type : Instr → Note → List FuncType
called_type CallIndirect note = record { params = replicate (words_of note.binders note.taken - 1) I64; result = None } ∷ []
called_type _ note = []

-- the types by which these instructions call, each with its note
abbrev pub called_types : List Instr → List Note → List FuncType
called_types [] notes = []
called_types (i ∷ is) [] = []
called_types (i ∷ is) (note ∷ notes) = called_type i note ++ called_types is notes

-- the types of the print, the allocators, the linked functions, the exported main and the indirect calls of all bodies
abbrev pub used_types : Program → List FuncType
used_types p =
    print_type ∷ alloc_type
    ∷ (map low_type p.funcs ++ start_type ∷ flat_map (λ (f : LinkedFunc). called_types (text_order f.body) f.notes) p.funcs)

-- the types of all functions and indirect calls, by first use
abbrev pub low_types : Program → List FuncType
low_types p = first_uses [] (used_types p)
