-- The tests of types are those of equality.
use Rattle.std.proofs.Common.{◌≡◌, true, List, [], ◌∷◌, Option, None, Some, refl, ap}
use Rattle.std.proofs.lemmas.Bool.{and_parts, and_from}
use Rattle.wasm_ast.specs.declared.types.ValTy.{ValTy}
use Rattle.wasm_ast.specs.declared.types.ValTy.TheVariants.{I32, I64}
use Rattle.wasm_ast.specs.declared.types.FuncType.{FuncType}
use Rattle.wasm_ast.specs.SameTypes.{is_same_value_type, are_same_value_types, is_same_result, is_same_type}

same_value : (a b : ValTy) → is_same_value_type a b ≡ true → a ≡ b
same_value I32 I32 h = refl
same_value I64 I64 h = refl
same_value I32 I64 h = absurd cc
same_value I64 I32 h = absurd cc

value_itself : (a : ValTy) → is_same_value_type a a ≡ true
value_itself I32 = refl
value_itself I64 = refl

same_values : (ts us : List ValTy) → are_same_value_types ts us ≡ true → ts ≡ us
same_values [] [] h = refl
same_values (t ∷ ts) (u ∷ us) h =
    let parts = and_parts (is_same_value_type t u) (are_same_value_types ts us) h in
    let heads = same_value t u parts.0 in
    let tails = same_values ts us parts.1 in
    λ i. heads i ∷ tails i
same_values [] (u ∷ us) h = absurd cc
same_values (t ∷ ts) [] h = absurd cc

values_themselves : (ts : List ValTy) → are_same_value_types ts ts ≡ true
values_themselves [] = refl
values_themselves (t ∷ ts) = and_from (is_same_value_type t t) (are_same_value_types ts ts) (value_itself t) (values_themselves ts)

same_result : (a b : Option ValTy) → is_same_result a b ≡ true → a ≡ b
same_result None None h = refl
same_result (Some a) (Some b) h = ap (λ (t : ValTy). Some t) (same_value a b h)
same_result None (Some b) h = absurd cc
same_result (Some a) None h = absurd cc

result_itself : (a : Option ValTy) → is_same_result a a ≡ true
result_itself None = refl
result_itself (Some a) = value_itself a

pub same_type : (a b : FuncType) → is_same_type a b ≡ true → a ≡ b
same_type a b h =
    let parts = and_parts (are_same_value_types a.params b.params) (is_same_result a.result b.result) h in
    let params = same_values a.params b.params parts.0 in
    let results = same_result a.result b.result parts.1 in
    λ i. record { params = params i; result = results i }

pub type_itself : (a : FuncType) → is_same_type a a ≡ true
type_itself a = and_from (are_same_value_types a.params a.params) (is_same_result a.result a.result) (values_themselves a.params) (result_itself a.result)
