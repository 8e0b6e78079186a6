-- What stands in lists at a number, with another in its place.
use Rattle.std.proofs.Common.{◌≡◌, ◌≢◌, ◌<◌, ◌⊎◌, inl, inr, ℕ, zero, suc, List, [], ◌∷◌, Some, length, refl, ap, arith}
use Rattle.std.specs.Prelude.{slice_get, slice_set}
use Rattle.rw_types.specs.declared.types.Ty.{Ty}
use Rattle.rich_reduction.specs.Configurations.{Val}
use Rattle.rich_soundness_values.specs.Heaps.{Heaps}
use Rattle.rich_soundness_values.specs.Values.{HasType, HaveTypes, more_types}

module _ {A : Type 0} where
  pub in_range : (xs : List A) (n : ℕ) (x : A) → slice_get xs n ≡ Some x → n < length xs
  in_range [] n x e = cc
  in_range (y ∷ xs) zero x e = omega arith
  in_range (y ∷ xs) (suc n) x e = omega (arith, in_range xs n x e)

  pub there : (xs : List A) (n : ℕ) → n < length xs → (x : A) × (slice_get xs n ≡ Some x)
  there [] n lt = absurd (omega arith)
  there (x ∷ xs) zero lt = (x, refl)
  there (x ∷ xs) (suc n) lt = there xs n (omega arith)

  pub after_set : (xs : List A) (n : ℕ) (x : A) (k : ℕ) (y : A) → slice_get (slice_set xs n x) k ≡ Some y → ((k ≡ n) × (y ≡ x)) ⊎ ((k ≢ n) × (slice_get xs k ≡ Some y))
  after_set [] n x k y e = cc
  after_set (z ∷ xs) zero x zero y e = inl (refl, (cc))
  after_set (z ∷ xs) zero x (suc k) y e = inr ((omega arith), e)
  after_set (z ∷ xs) (suc n) x zero y e = inr ((omega arith), e)
  after_set (z ∷ xs) (suc n) x (suc k) y e = elim (after_set xs n x k y e) [
    | inl r ↦ inl (ap suc r.0, r.1)
    | inr r ↦ inr ((λ s. r.0 (omega arith)), r.1)
  ]

-- a value on top of operands is taken
pub one_taken : (hs : Heaps) (vs : List Val) (t : Ty) (ts : List Ty) (P : List Val → Type 0) → HaveTypes hs vs (t ∷ ts) → ((v : Val) (rest : List Val) → HasType hs v t → HaveTypes hs rest ts → P (v ∷ rest)) → P vs
one_taken hs [] t ts P h k = elim h [ ]
one_taken hs (v ∷ vs) t ts P (more_types h hv) k = k v vs h hv
