-- Each type that is used stands at its index, and that of the print at the first.
use Rattle.std.proofs.Common.{◌≡◌, ◌∙◌, ◌<◌, ℕ, zero, suc, ◌+◌, Bool, true, false, List, [], ◌∷◌, ◌++◌, Some, length, map, refl, ap, subst, arith}
use Rattle.std.specs.Prelude.{flat_map, slice_get, if◌then◌else◌}
use Rattle.wasm_ast.specs.declared.types.FuncType.{FuncType}
use Rattle.rw_program.specs.declared.linked.LinkedFunc.{LinkedFunc}
use Rattle.rw_program.specs.Programs.{Program}
use Rattle.lowering_table.specs.TypeUses.{first_uses, is_among, type_index}
use Rattle.lowering_table.specs.Types.{alloc_type, start_type}
use Rattle.lowering_table.proofs.TypePlaces.{each_use}
use Rattle.lowering_rows_typed.specs.Contexts.{taking_words}
use Rattle.lowering_modules.specs.Types.{calls_of, function_type, module_types, used_types}

-- a type stands at its index
abbrev pub Stands : Program → FuncType → Type 0
Stands p t = slice_get (module_types p) (type_index t (module_types p)) ≡ Some t

pub used : (p : Program) (k : ℕ) (t : FuncType) → slice_get (used_types p) k ≡ Some t → Stands p t
used p k t e = each_use [] (used_types p) k t e

-- a place in the second of two lists
pub later : {A : Type 0} (xs ys : List A) (k : ℕ) → slice_get (xs ++ ys) (length xs + k) ≡ slice_get ys k
later [] ys k = let same : 0 + k ≡ k = omega arith in ap (λ (n : ℕ). slice_get ys n) same
later (x ∷ xs) ys k = let same : suc (length xs) + k ≡ suc (length xs + k) = omega arith in ap (λ (n : ℕ). slice_get (x ∷ (xs ++ ys)) n) same ∙ later xs ys k

pub early : {A : Type 0} (xs ys : List A) (k : ℕ) (x : A) → slice_get xs k ≡ Some x → slice_get (xs ++ ys) k ≡ Some x
early [] ys k x e = cc
early (y ∷ xs) ys zero x e = e
early (y ∷ xs) ys (suc k) x e = early xs ys k x e

pub map_found : {A B : Type 0} (h : A → B) (xs : List A) (k : ℕ) (x : A) → slice_get xs k ≡ Some x → slice_get (map h xs) k ≡ Some (h x)
map_found h [] k x e = cc
map_found h (y ∷ xs) zero x e = let same : y ≡ x = cc in ap (λ z. Some (h z)) same
map_found h (y ∷ xs) (suc k) x e = map_found h xs k x e

flat_found : {A B : Type 0} (h : A → List B) (xs : List A) (n k : ℕ) (x : A) (y : B) → slice_get xs n ≡ Some x → slice_get (h x) k ≡ Some y → (m : ℕ) × (slice_get (flat_map h xs) m ≡ Some y)
flat_found h [] n k x y e g = cc
flat_found h (z ∷ xs) zero k x y e g =
    let same : x ≡ z = cc in
    (k, early (h z) (flat_map h xs) k y (subst (λ v. slice_get (h v) k ≡ Some y) same g))
flat_found h (z ∷ xs) (suc n) k x y e g = let m = flat_found h xs n k x y e g in (length (h z) + m.0, later (h z) (flat_map h xs) m.0 ∙ m.1)

pub print_stands : (p : Program) → Stands p (taking_words 1)
print_stands p = used p 0 (taking_words 1) refl

pub alloc_stands : (p : Program) → Stands p alloc_type
alloc_stands p = used p 1 alloc_type refl

pub function_stands : (p : Program) (n : ℕ) (f : LinkedFunc) → slice_get p.funcs n ≡ Some f → Stands p (function_type f)
function_stands p n f e = used p (suc (suc n)) (function_type f) (early (map function_type p.funcs) (start_type ∷ flat_map calls_of p.funcs) n (function_type f) (map_found function_type p.funcs n f e))

pub start_stands : (p : Program) → Stands p start_type
start_stands p = used p (suc (suc (length (map function_type p.funcs) + 0))) start_type (later (map function_type p.funcs) (start_type ∷ flat_map calls_of p.funcs) 0)

-- the type of a call in a body
pub call_stands : (p : Program) (n k : ℕ) (f : LinkedFunc) (t : FuncType) → slice_get p.funcs n ≡ Some f → slice_get (calls_of f) k ≡ Some t → Stands p t
call_stands p n k f t e g =
    let m = flat_found calls_of p.funcs n k f t e g in
    used p (suc (suc (length (map function_type p.funcs) + suc m.0))) t (later (map function_type p.funcs) (start_type ∷ flat_map calls_of p.funcs) (suc m.0) ∙ m.1)

-- the first type stays the first
stays_first : (t : FuncType) (listed ts : List FuncType) → slice_get (first_uses (t ∷ listed) ts) 0 ≡ Some t
stays_first t listed [] = refl
stays_first t listed (u ∷ ts) = by_test (is_among u (t ∷ listed)) (stays_first t listed ts) (stays_first t (listed ++ u ∷ []) ts)
  where
    by_test : (b : Bool) → slice_get (first_uses (t ∷ listed) ts) 0 ≡ Some t → slice_get (first_uses (t ∷ (listed ++ u ∷ [])) ts) 0 ≡ Some t → slice_get (if b then first_uses (t ∷ listed) ts else first_uses (t ∷ (listed ++ u ∷ [])) ts) 0 ≡ Some t
    by_test true x y = x
    by_test false x y = y

pub print_first : (p : Program) → slice_get (module_types p) 0 ≡ Some (taking_words 1)
print_first p = stays_first (taking_words 1) [] (alloc_type ∷ (map function_type p.funcs ++ start_type ∷ flat_map calls_of p.funcs))

-- each index is one of the types
pub within_types : (p : Program) (t : FuncType) → Stands p t → type_index t (module_types p) < length (module_types p)
within_types p t e = within (module_types p) (type_index t (module_types p)) e
  where
    within : (ts : List FuncType) (n : ℕ) → slice_get ts n ≡ Some t → n < length ts
    within [] n e = cc
    within (u ∷ ts) zero e = omega arith
    within (u ∷ ts) (suc n) e = omega (arith, within ts n e)
