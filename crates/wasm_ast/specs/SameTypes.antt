-- When types are the same (WebAssembly Core Specification 1.0, section 2.3).
use Rattle.std.specs.Prelude.{Bool, true, false, ◌&&◌, List, [], ◌∷◌, Option, Some, None}
use Rattle.wasm_ast.specs.declared.types.ValTy.{ValTy}
use Rattle.wasm_ast.specs.declared.types.ValTy.TheVariants.{I32, I64}
use Rattle.wasm_ast.specs.declared.types.FuncType.{FuncType}

abbrev pub is_same_value_type : ValTy → ValTy → Bool
is_same_value_type I32 I32 = true
is_same_value_type I64 I64 = true
is_same_value_type I32 I64 = false
is_same_value_type I64 I32 = false

abbrev pub are_same_value_types : List ValTy → List ValTy → Bool
are_same_value_types [] [] = true
are_same_value_types (t ∷ ts) (u ∷ us) = is_same_value_type t u && are_same_value_types ts us
are_same_value_types [] (u ∷ us) = false
are_same_value_types (t ∷ ts) [] = false

abbrev pub is_same_result : Option ValTy → Option ValTy → Bool
is_same_result None None = true
is_same_result (Some t) (Some u) = is_same_value_type t u
is_same_result None (Some u) = false
is_same_result (Some t) None = false

-- whether two function types are the same
abbrev pub is_same_type : FuncType → FuncType → Bool
is_same_type f g = are_same_value_types f.params g.params && is_same_result f.result g.result
