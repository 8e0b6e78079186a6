-- What files with their names link to: the first of six refusals, or a program. Functions and globals are numbered in the
-- order of the files, and an import is the function that it names. This project's own.
use Rattle.std.specs.Prelude.{ℕ, ◌+◌, ◌-◌, zero, suc, List, [], ◌∷◌, ◌++◌, if◌then◌else◌, Option, Some, None, Result, Ok, Err, length, drop, slice_get, bytes_eq, codes, option_map, option_and_then}
use Rattle.rw_types.specs.declared.modules.ImportDef.{ImportDef}
use Rattle.rw_types.specs.declared.modules.FuncDef.{FuncDef}
use Rattle.rw_types.specs.declared.modules.GlobalDef.{GlobalDef}
use Rattle.rw_types.specs.declared.modules.Module.{Module}
use Rattle.rw_types.specs.declared.types.FunType.{FunType}
use Rattle.rich_typing.specs.declared.notes.Note.{Note}
use Rattle.rich_rules.specs.Equality.{same_function}
use Rattle.rich_rules.specs.Takers.{unr_i64}
use Rattle.rw_program.specs.declared.linked.LinkedFunc.{LinkedFunc}
use Rattle.rw_program.specs.declared.linked.LinkedGlobal.{LinkedGlobal}
use Rattle.rw_program.specs.Modules.{TypedModule}
use Rattle.rw_program.specs.Programs.{Program}
use Rattle.rw_program.specs.Linking.{exported}
use Rattle.rich_linking.specs.Numbers.{NewNumbers, renumbered_list}

-- a file: its name, and its module with the notes of its bodies
abbrev pub File : Type 0
File = List ℕ × TypedModule

-- why files do not link; files and their imports are counted from 0
pub data LinkRefusal : Type 0 where
  DuplicateModule : (first second : ℕ) → LinkRefusal
  NoModule : (file import_number : ℕ) → LinkRefusal
  NoExport : (file import_number : ℕ) → LinkRefusal
  TypeDiffers : (file import_number : ℕ) → (found expected : FunType) → LinkRefusal
  NoMain : LinkRefusal
  MainType : LinkRefusal

-- what follows an answer that is no refusal
abbrev pub and_then : {A B : Type 0} → Result A LinkRefusal → (A → Result B LinkRefusal) → Result B LinkRefusal
and_then (Ok x) next = next x
and_then (Err r) next = Err r

-- the place of the first file of this name
abbrev pub place_of : List ℕ → List File → Option ℕ
place_of name [] = None
place_of name (f ∷ fs) = if bytes_eq name f.0 then Some 0 else option_map (λ n. suc n) (place_of name fs)

-- two places, if the first is there
abbrev pub pair_or : Option ℕ → ℕ → Option (ℕ × ℕ) → Option (ℕ × ℕ)
pair_or (Some first) second rest = Some (first, second)
pair_or None second rest = rest

-- the first file that has the name of one before it, and the first of that name; these come before
abbrev pub twice_named : List File → List File → Option (ℕ × ℕ)
twice_named before [] = None
twice_named before (f ∷ fs) = pair_or (place_of f.0 before) (length before) (twice_named (before ++ f ∷ []) fs)

-- how many functions the first so many files define, and how many globals
abbrev pub functions_before : ℕ → List File → ℕ
functions_before zero files = 0
functions_before (suc n) [] = 0
functions_before (suc n) (f ∷ fs) = length f.1.source.funcs + functions_before n fs

abbrev pub globals_before : ℕ → List File → ℕ
globals_before zero files = 0
globals_before (suc n) [] = 0
globals_before (suc n) (f ∷ fs) = length f.1.source.globals + globals_before n fs

-- a function of the file at a place, by its number there, which counts the imports of the file: its number in the program, and
-- its type
pub record Target : Type 0 where
  pub number : ℕ
  pub ty : FunType

-- the function that a module defines with this number, whose first function has this number in the program
abbrev pub defined_target : ℕ → Module → ℕ → Option Target
defined_target base m n = option_map (λ (f : FuncDef). record { number = base + (n - length m.imports); ty = f.ty }) (slice_get m.funcs (n - length m.imports))

-- the function that the file at this place exports by this name
abbrev pub exported_target : List File → ℕ → TypedModule → List ℕ → Option Target
exported_target files at file name = option_and_then (λ n. defined_target (functions_before at files) file.source n) (exported name file.source.exports)

-- what an import of a file names: its number in the program, where the export has the import's type
abbrev pub with_type : ℕ → ℕ → FunType → Option Target → Result ℕ LinkRefusal
with_type file n expected None = Err (NoExport file n)
with_type file n expected (Some t) = if same_function t.ty expected then Ok t.number else Err (TypeDiffers file n t.ty expected)

abbrev pub in_file : List File → ℕ → ℕ → ImportDef → ℕ → Option File → Result ℕ LinkRefusal
in_file files file n i at None = Err (NoModule file n)
in_file files file n i at (Some f) = with_type file n i.ty (exported_target files at f.1 i.name)

abbrev pub at_place : List File → ℕ → ℕ → ImportDef → Option ℕ → Result ℕ LinkRefusal
at_place files file n i None = Err (NoModule file n)
at_place files file n i (Some at) = in_file files file n i at (slice_get files at)

abbrev pub imported : List File → ℕ → ℕ → ImportDef → Result ℕ LinkRefusal
imported files file n i = at_place files file n i (place_of i.«module» files)

-- what the imports of a file name, from this number on
abbrev pub all_imported : List File → ℕ → ℕ → List ImportDef → Result (List ℕ) LinkRefusal
all_imported files file n [] = Ok []
all_imported files file n (i ∷ is) = and_then (imported files file n i) (λ number. and_then (all_imported files file (suc n) is) (λ numbers. Ok (number ∷ numbers)))

-- so many numbers from this one on
abbrev pub counting : ℕ → ℕ → List ℕ
counting zero from = []
counting (suc n) from = from ∷ counting n (suc from)

-- the new numbers in a file, whose imports have these
abbrev pub new_numbers : List File → ℕ → Module → List ℕ → NewNumbers
new_numbers files at m imports = record {
  functions = imports ++ counting (length m.funcs) (functions_before at files);
  globals = counting (length m.globals) (globals_before at files);
}

-- the functions of a file with new numbers and their notes, and its globals
abbrev pub linked_functions : ℕ → NewNumbers → List FuncDef → List (List Note) → List LinkedFunc
linked_functions file k (f ∷ fs) (notes ∷ rest) = record { file = file; ty = f.ty; locals = f.locals; body = renumbered_list k f.body; notes = notes } ∷ linked_functions file k fs rest
linked_functions file k _ _ = []

abbrev pub linked_globals : ℕ → NewNumbers → List GlobalDef → List (List Note) → List LinkedGlobal
linked_globals file k (g ∷ gs) (notes ∷ rest) = record { file = file; mutable = g.mutable; ty = g.ty; body = renumbered_list k g.body; notes = notes } ∷ linked_globals file k gs rest
linked_globals file k _ _ = []

-- the functions and globals of files
pub record LinkedFields : Type 0 where
  pub funcs : List LinkedFunc
  pub globals : List LinkedGlobal

-- those of one file before those of others
abbrev pub with_file : ℕ → NewNumbers → TypedModule → LinkedFields → LinkedFields
with_file file k m fields = record {
  funcs = linked_functions file k m.source.funcs m.notes ++ fields.funcs;
  globals = linked_globals file k m.source.globals (drop (length m.source.funcs) m.notes) ++ fields.globals;
}

-- those of the files from this place on, import by import
abbrev pub linked_from : List File → ℕ → List File → Result LinkedFields LinkRefusal
linked_from files at [] = Ok (record { funcs = []; globals = [] })
linked_from files at (f ∷ fs) = and_then (all_imported files at 0 f.1.source.imports) (λ imports. and_then (linked_from files (suc at) fs) (λ fields. Ok (with_file at (new_numbers files at f.1.source imports) f.1 fields)))

-- the type of a main function: it takes nothing and gives a number
abbrev pub main_type : FunType
main_type = record { binders = []; params = []; results = unr_i64 ∷ [] }

-- the program whose main function is this one
abbrev pub with_main : LinkedFields → Option Target → Result Program LinkRefusal
with_main fields None = Err NoMain
with_main fields (Some t) = if same_function t.ty main_type then Ok (record { funcs = fields.funcs; globals = fields.globals; main = t.number }) else Err MainType

-- the main function of the last file, if there is one
abbrev pub main_of : List File → ℕ → List File → Option Target
main_of files at [] = None
main_of files at (f ∷ []) = exported_target files at f.1 (codes "main")
main_of files at (f ∷ g ∷ fs) = main_of files (suc at) (g ∷ fs)

-- what files link to, where no two have one name
abbrev pub linked_apart : List File → Option (ℕ × ℕ) → Result Program LinkRefusal
linked_apart files (Some pair) = Err (DuplicateModule pair.0 pair.1)
linked_apart files None = and_then (linked_from files 0 files) (λ fields. with_main fields (main_of files 0 files))

-- what files link to
abbrev pub linked : List File → Result Program LinkRefusal
linked files = linked_apart files (twice_named [] files)
