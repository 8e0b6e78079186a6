-- The linked program of one file without imports. This project's own.
use Rattle.std.specs.Prelude.{◌≡◌, ℕ, List, [], ◌∷◌, ◌++◌, Option, Some, None, length, drop, map, replicate, codes, find}
use Rattle.std.specs.Option.{option_map}
use Rattle.std.specs.Str.{bytes_eq}
use Rattle.rw_types.specs.declared.modules.ExportDef.{ExportDef}
use Rattle.rw_types.specs.declared.modules.FuncDef.{FuncDef}
use Rattle.rw_types.specs.declared.modules.GlobalDef.{GlobalDef}
use Rattle.rich_typing.specs.declared.notes.Note.{Note}
use Rattle.rich_typing.specs.Derivations.{IsTyped}
use Rattle.rw_program.specs.declared.linked.LinkedFunc.{LinkedFunc}
use Rattle.rw_program.specs.declared.linked.LinkedGlobal.{LinkedGlobal}
use Rattle.rw_program.specs.Modules.{TypedModule}
use Rattle.rw_program.specs.Programs.{Program}

-- the functions of the file with this number, with their notes
abbrev pub linked_funcs : ℕ → List FuncDef → List (List Note) → List LinkedFunc
linked_funcs file (f ∷ fs) (notes ∷ rest) = record { file = file; ty = f.ty; locals = f.locals; body = f.body; notes = notes } ∷ linked_funcs file fs rest
linked_funcs file _ _ = []

-- the globals of the file with this number, with their notes
abbrev pub linked_globals : ℕ → List GlobalDef → List (List Note) → List LinkedGlobal
linked_globals file (g ∷ gs) (notes ∷ rest) = record { file = file; mutable = g.mutable; ty = g.ty; body = g.body; notes = notes } ∷ linked_globals file gs rest
linked_globals file _ _ = []

-- the number of the function that is exported by this name
abbrev pub exported : List ℕ → List ExportDef → Option ℕ
exported name exports = option_map (λ e. e.func) (find (λ e. bytes_eq name e.name) exports)

-- the program of these functions and globals, where there is a main function
abbrev pub program_with : List LinkedFunc → List LinkedGlobal → Option ℕ → Option Program
program_with funcs globals (Some main) = Some (record { funcs = funcs; globals = globals; main = main })
program_with funcs globals None = None

-- the program of the first file alone, whose numbers stay as they are; none where it exports no `main`
abbrev pub program_of : TypedModule → Option Program
program_of file = program_with
    (linked_funcs 0 file.source.funcs file.notes)
    (linked_globals 0 file.source.globals (drop (length file.source.funcs) file.notes))
    (exported (codes "main") file.source.exports)

-- the function that a linked one was in its file
abbrev pub func_of : LinkedFunc → FuncDef
func_of f = record { ty = f.ty; locals = f.locals; body = f.body }

-- the global that a linked one was in its file
abbrev pub global_of : LinkedGlobal → GlobalDef
global_of g = record { mutable = g.mutable; ty = g.ty; body = g.body }

-- these are the functions and the globals of the file, in their order, with all its notes, and the file is the first one
pub record LinksEach (file : TypedModule) (funcs : List LinkedFunc) (globals : List LinkedGlobal) : Type 0 where
  pub functions : map func_of funcs ≡ file.source.funcs
  pub values : map global_of globals ≡ file.source.globals
  pub notes : map (λ (f : LinkedFunc). f.notes) funcs ++ map (λ (g : LinkedGlobal). g.notes) globals ≡ file.notes
  pub files : map (λ (f : LinkedFunc). f.file) funcs ++ map (λ (g : LinkedGlobal). g.file) globals ≡ replicate (length file.notes) 0

-- what is linked of a checked module is each of its functions and globals, as it is, with its notes
abbrev pub NoneDropped : Type 0
NoneDropped = (file : TypedModule) → IsTyped file.source file.notes →
    LinksEach file (linked_funcs 0 file.source.funcs file.notes) (linked_globals 0 file.source.globals (drop (length file.source.funcs) file.notes))
