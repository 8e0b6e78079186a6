-- Function types in the order of their first use, equal ones once. This project's own.
use Rattle.std.specs.Prelude.{ℕ, suc, Bool, true, false, ◌&&◌, if◌then◌else◌, List, [], ◌∷◌, ◌++◌, Option, Some, None}
use Rattle.wasm_ast.specs.SameTypes.{is_same_type}
use Rattle.wasm_ast.specs.declared.types.ValTy.{ValTy}
use Rattle.wasm_ast.specs.declared.types.ValTy.TheVariants.{I32, I64}
use Rattle.wasm_ast.specs.declared.types.FuncType.{FuncType}

abbrev pub is_among : FuncType → List FuncType → Bool
is_among t [] = false
is_among t (u ∷ us) = if is_same_type t u then true else is_among t us

-- the types listed so far, and then those of the uses that are not among them
abbrev pub first_uses : List FuncType → List FuncType → List FuncType
first_uses listed [] = listed
first_uses listed (t ∷ ts) = if is_among t listed then first_uses listed ts else first_uses (listed ++ t ∷ []) ts

-- the place of a type in a list that has it
abbrev pub type_index : FuncType → List FuncType → ℕ
type_index t [] = 0
type_index t (u ∷ us) = if is_same_type t u then 0 else suc (type_index t us)
