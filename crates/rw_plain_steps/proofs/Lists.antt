-- Operands from the top, and tuples as lists.
use Rattle.std.proofs.Common.{◌≡◌, ◌≤◌, ℕ, zero, suc, List, [], ◌∷◌, length, take, drop, refl, ap, arith}
use Rattle.machine_steps.specs.Steps.{Turn, with_top}
use Rattle.rich_reduction.specs.Configurations.{Val}
use Rattle.rich_reduction.specs.Values.{parts_of, list_of}

-- so many from the top are there
pub top : {V E A : Type 0} (n : ℕ) (vs : List V) (k : List V → List V → Turn E A) → n ≤ length vs → with_top n vs k ≡ k (take n vs) (drop n vs)
top zero vs k le = refl
top (suc n) [] k le = absurd (omega (arith, le))
top (suc n) (v ∷ vs) k le = top n vs (λ taken beneath. k (v ∷ taken) beneath) (omega (arith, le))

-- the list of the parts that a list makes
pub listed : (vs : List Val) → list_of (parts_of vs) ≡ vs
listed [] = refl
listed (v ∷ vs) = ap (λ (l : List Val). v ∷ l) (listed vs)
