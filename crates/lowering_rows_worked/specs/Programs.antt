-- How the rows speak of programs, of what their points tell, and of their codes (this project's own rows).
use Rattle.std.specs.Prelude.{ℕ, map, replicate, List, [], ◌∷◌, ◌++◌, Some, None}
use Rattle.wasm_ast.specs.declared.types.ValTy.TheVariants.{I64}
use Rattle.wasm_ast.specs.declared.modules.Code.{Code}
use Rattle.rw_types.specs.declared.types.Binder.{Binder}
use Rattle.rw_types.specs.declared.types.Ty.{Ty}
use Rattle.rich_typing.specs.declared.notes.Note.{Note}
use Rattle.rw_program.specs.Programs.{Program}
use Rattle.lowering_table.specs.TypeUses.{type_index}
use Rattle.lowering_table.specs.Types.{low_types}
use Rattle.lowering_rows.specs.Functions.{function_code, start_code}

-- under these binders, a point with so many words beneath what is taken
abbrev pub point_under : List Binder → ℕ → List Ty → Note
point_under binders beneath taken = record { binders = binders; beneath = beneath; taken = taken; local = None }

abbrev pub point : ℕ → List Ty → Note
point beneath taken = point_under [] beneath taken

-- and one whose instruction names a local of this type
abbrev pub naming : Ty → List Binder → ℕ → List Ty → Note
naming t binders beneath taken = record { binders = binders; beneath = beneath; taken = taken; local = Some t }

-- the index of the type that takes so many words and gives nothing, among those of a program's lowered module
abbrev pub types_of : Program → ℕ → ℕ
types_of p n = type_index (record { params = replicate n I64; result = None }) (low_types p)

-- the codes of a program's functions and of the exported main
abbrev pub codes_of : Program → List Code
codes_of p = map (function_code p (types_of p)) p.funcs ++ start_code p (types_of p) ∷ []
