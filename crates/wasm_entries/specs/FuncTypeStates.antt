-- Function types in the middle (WebAssembly Core Specification 1.0, section 5.3.3); the states are this project's own.
use Rattle.std.specs.Prelude.{ℕ, List, Some}
use Rattle.wasm_ast.specs.declared.types.ValTy.{ValTy}
use Rattle.wasm_ast.specs.declared.types.FuncType.{FuncType}
use Rattle.wasm_reading.specs.Readers.{Reader, ◌>>=◌, give}
use Rattle.wasm_reading.specs.ReadValues.{tag_at, only, vector_at}
use Rattle.wasm_reading.specs.ReadTypes.{value_type_of, at_most, results_at, func_type_at}
use Rattle.wasm_items.specs.Residuals.{WantsAByte}
use Rattle.wasm_items.specs.WantsBytes.{wants_then, wants_tag}
use Rattle.wasm_items.specs.BoundedStates.{bounded_at, rest_of_bounded, wants_bounded}
use Rattle.wasm_items.specs.Vectors.{rest_of_vector, wants_vector}
use Rattle.wasm_entries.specs.declared.func_type.FuncTypeState.{FuncTypeState}
use Rattle.wasm_entries.specs.declared.func_type.FuncTypeState.TheVariants.{Form, Params, Count, Result}

-- what is read behind the count of results
abbrev pub behind_count : List ValTy → ℕ → Reader FuncType
behind_count params count = do
  result ← results_at count
  give (record { params = params; result = result })

-- what is read behind the parameters
abbrev pub behind_params : List ValTy → Reader FuncType
behind_params params = at_most 1 >>= behind_count params

-- the same where the count of results stands at `place`
abbrev pub count_at : ℕ → List ValTy → Reader FuncType
count_at place params = bounded_at 1 place >>= behind_count params

-- the result behind the parameters
abbrev pub result_behind : List ValTy → Reader FuncType
result_behind params = do
  t ← tag_at value_type_of
  give (record { params = params; result = Some t })

-- a function type in the middle
abbrev pub rest_of_func_type : FuncTypeState → Reader FuncType
rest_of_func_type (Form alloc) = func_type_at
rest_of_func_type (Params params) = rest_of_vector (tag_at value_type_of) (λ _. tag_at value_type_of) params >>= behind_params
rest_of_func_type (Count params count) = rest_of_bounded count >>= behind_count params
rest_of_func_type (Result params) = result_behind params

-- a function type wants a byte
pub wants_func_type : (state : FuncTypeState) → WantsAByte (rest_of_func_type state)
wants_func_type (Form alloc) = wants_then (λ _. vector_at (tag_at value_type_of) >>= behind_params) (wants_tag (only 0x60))
wants_func_type (Params params) = wants_then behind_params (wants_vector (tag_at value_type_of) (λ _. tag_at value_type_of) (λ _. wants_tag value_type_of) params)
wants_func_type (Count params count) = wants_then (behind_count params) (wants_bounded count)
wants_func_type (Result params) = wants_then (λ t. give (record { params = params; result = Some t })) (wants_tag value_type_of)
