-- Words in Wasm locals.
use Rattle.std.proofs.Common.{◌≡◌, ◌∙◌, ℕ, zero, suc, ◌<◌, ◌≤◌, List, [], ◌∷◌, length, Some, slice_set, refl, ap, subst, arith}
use Rattle.std.specs.Prelude.{slice_get}

-- the operands, the top one first, stand in the locals from the first one on
abbrev pub Stored : List ℕ → List ℕ → Type 0
Stored [] locals = Unit {0}
Stored (v ∷ vs) locals = (slice_get locals (length vs) ≡ Some v) × Stored vs locals

get_set_same : (xs : List ℕ) (j : ℕ) (x : ℕ) → j < length xs → slice_get (slice_set xs j x) j ≡ Some x
get_set_same [] j x lt = absurd (omega (arith, lt))
get_set_same (y ∷ xs) zero x lt = refl
get_set_same (y ∷ xs) (suc j) x lt = get_set_same xs j x (omega (arith, lt))

get_set_before : (xs : List ℕ) (i j : ℕ) (x : ℕ) → i < j → slice_get (slice_set xs j x) i ≡ slice_get xs i
get_set_before [] i j x lt = refl
get_set_before (y ∷ xs) i zero x lt = absurd (omega (arith, lt))
get_set_before (y ∷ xs) zero (suc j) x lt = refl
get_set_before (y ∷ xs) (suc i) (suc j) x lt = get_set_before xs i j x (omega (arith, lt))

pub length_set : (xs : List ℕ) (j : ℕ) (x : ℕ) → length (slice_set xs j x) ≡ length xs
length_set [] j x = refl
length_set (y ∷ xs) zero x = refl
length_set (y ∷ xs) (suc j) x = ap (λ (n : ℕ). suc n) (length_set xs j x)

pub stored_beneath : (vs xs : List ℕ) (j x : ℕ) → length vs ≤ j → Stored vs xs → Stored vs (slice_set xs j x)
stored_beneath [] xs j x le h = tt
stored_beneath (v ∷ vs) xs j x le h = (get_set_before xs (length vs) j x (omega (arith, le)) ∙ h.0, stored_beneath vs xs j x (omega (arith, le)) h.1)

pub stored_on : (vs xs : List ℕ) (j x : ℕ) → j ≡ length vs → j < length xs → Stored vs xs → Stored (x ∷ vs) (slice_set xs j x)
stored_on vs xs j x e lt h =
    (subst (λ (k : ℕ). slice_get (slice_set xs j x) k ≡ Some x) e (get_set_same xs j x lt), stored_beneath vs xs j x (omega (arith, e)) h)

-- a local that is there has a value
pub found : (xs : List ℕ) (j : ℕ) → j < length xs → (x : ℕ) × (slice_get xs j ≡ Some x)
found [] j lt = absurd (omega (arith, lt))
found (x ∷ xs) zero lt = (x, refl)
found (x ∷ xs) (suc j) lt = found xs j (omega (arith, lt))
