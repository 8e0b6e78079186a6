-- The laws of the types of a lowered module.
use Rattle.std.proofs.Common.{◌≡◌, ℕ, suc, ◌+◌, List, [], ◌∷◌, ◌++◌, Option, Some, map, ⊎_elim, refl, ap, subst, arith}
use Rattle.std.specs.Prelude.{slice_get}
use Rattle.std.proofs.lemmas.Option.{none-some}
use Rattle.wasm_ast.specs.declared.types.FuncType.{FuncType}
use Rattle.rw_program.specs.declared.linked.LinkedFunc.{LinkedFunc}
use Rattle.lowering_table.specs.TypeUses.{type_index}
use Rattle.lowering_table.specs.Types.{low_type, low_types, start_type, used_types}
use Rattle.lowering_table.specs.TypeLaws.{FunctionsHaveTheirTypes, ListedTypesAreUsed, TypesAreInOrder, TypesAreListedOnce, UsedTypesAreListed}
use Rattle.lowering_table.proofs.TypeOrder.{uses_in_order}
use Rattle.lowering_table.proofs.TypePlaces.{Has, each_use, uses_once, uses_stand}

pub used_types-are_listed : UsedTypesAreListed
used_types-are_listed p k t h = each_use [] (used_types p) k t h

pub types-are_listed_once : TypesAreListedOnce
types-are_listed_once p i t h = uses_once [] (used_types p) t (λ k stands. absurd (none-some t stands)) i h

pub listed_types-are_used : ListedTypesAreUsed
listed_types-are_used p i t h = ⊎_elim (λ s. absurd (none-some t s.1)) (λ s. s) (uses_stand [] (used_types p) t (i, h))

pub types-are_in_order : TypesAreInOrder
types-are_in_order p =
    uses_in_order (used_types p) 0 [] (used_types p)
    (λ k t stands. let same : k ≡ 0 + k = omega arith in subst (λ (j : ℕ). slice_get (used_types p) j ≡ Some t) same stands)
    (record {
      early = λ i x stands. absurd (none-some x stands);
      seen = λ k x lt stands. absurd (omega (arith, lt));
      ordered = λ i j t u first second lt. absurd (none-some t first);
    })

-- the indices of linked functions and that of the exported main, behind whose types others stand
indices : (types : List FuncType) (fs : List LinkedFunc) (others : List FuncType) → ((k : ℕ) (t : FuncType) → slice_get (map low_type fs ++ start_type ∷ others) k ≡ Some t → Has types t) →
    map (λ n. slice_get types n) (map (λ f. type_index (low_type f) types) fs ++ type_index start_type types ∷ []) ≡ map (λ t. Some t) (map low_type fs ++ start_type ∷ [])
indices types [] others has = ap (λ (o : Option FuncType). o ∷ []) (has 0 start_type refl)
indices types (f ∷ fs) others has =
    let first : Has types (low_type f) = has 0 (low_type f) refl in
    let rest = indices types fs others (λ k t h. has (suc k) t h) in
    λ i. first i ∷ rest i

pub functions-have_their_types : FunctionsHaveTheirTypes
functions-have_their_types p pages =
    let types = low_types p in
    let print = used_types-are_listed p 0 _ refl in
    let alloc = used_types-are_listed p 1 _ refl in
    let rest = indices types p.funcs _ (λ k t h. used_types-are_listed p (suc (suc k)) t h) in
    λ i. alloc i ∷ print i ∷ alloc i ∷ rest i
