-- The one import that the host gives: the function `print` of `rw`, which takes an i64 and gives nothing (this project's own).
use Rattle.std.specs.Prelude.{Bool, false, ◌&&◌, List, [], ◌∷◌, Some, None, codes, slice_get}
use Rattle.std.specs.Str.{bytes_eq}
use Rattle.wasm_ast.specs.declared.types.FuncType.{FuncType}
use Rattle.wasm_ast.specs.declared.types.ValTy.TheVariants.{I64}
use Rattle.wasm_ast.specs.declared.modules.Import.{Import}
use Rattle.wasm_ast.specs.declared.modules.ImportKind.{ImportKind}
use Rattle.wasm_ast.specs.declared.modules.ImportKind.TheVariants as import_kind
use Rattle.wasm_execution.specs.Types.{takes_and_gives}
use Rattle.wasm_ast.specs.SameTypes.{is_same_type}

-- whether a thing is a function that takes an i64 and gives nothing
abbrev pub prints_i64 : List FuncType → ImportKind → Bool
prints_i64 types (import_kind.Func n) = elim (slice_get types n) [ None ↦ false | Some t ↦ is_same_type t (takes_and_gives (I64 ∷ []) None) ]
prints_i64 types _ = false

-- whether an import is the one that the host gives
abbrev pub is_print : List FuncType → Import → Bool
is_print types i = bytes_eq i.«module» (codes "rw") && (bytes_eq i.name (codes "print") && prints_i64 types i.what)
