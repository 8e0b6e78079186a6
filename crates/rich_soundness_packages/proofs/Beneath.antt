-- Existential packages in closed types, and past a new location.
use Rattle.std.proofs.Common.{◌≡◌, ℕ, ◌+◌, refl, sym, ap, ◌∙◌, true, false, arith}
use Rattle.std.proofs.Math.Dec.{ltb}
use Rattle.std.specs.Prelude.{nat_lt, if◌then◌else◌}
use Rattle.rw_types.specs.declared.types.Heap.TheVariants.{Exist}
use Rattle.rw_types.specs.declared.types.Qual.{Qual}
use Rattle.rw_types.specs.declared.types.Ty.{Ty, Var}
use Rattle.rich_types.specs.Walks.{outside, below_location, below_variable, walk, walk_heap}
use Rattle.rich_types.specs.Instances.{Substitution, substituting, raise_number, raising, raise}
use Rattle.rich_types.proofs.Shapes.{walk-Exist}
use Rattle.rich_types_laws.proofs.Walked.{Alike, walk_alike}
use Rattle.rich_rules.specs.Raised.{one_location}
use Rattle.rich_reduction.specs.Configurations.{Location}
use Rattle.rich_soundness_binders.specs.Laws.{onto}
use Rattle.rich_soundness_binders.proofs.Onto.{raised_stays}
use Rattle.rich_soundness_binders.proofs.Bodies.{placed, type_body}

pub package_at : (g : Substitution) (q : Qual) (s : ℕ) (t : Ty) → walk_heap (substituting g) outside (Exist q s t) ≡ Exist q s (type_body g t)
package_at g q s t = walk-Exist (substituting g) outside q s t

unraised : (d n : ℕ) → raise_number d 0 n ≡ n
unraised d n = let e : n + 0 ≡ n = omega arith in elim (nat_lt n d) as (λ b. (let k : ℕ = if b then n else n + 0 in k ≡ n)) [ true ↦ refl | false ↦ e ]

-- to raise past a location is the same beneath a type variable
same_beneath : Alike (raising one_location) (raising one_location) (λ d e. d.locations ≡ e.locations)
unfolding below_location below_variable
same_beneath = record {
  location = λ d e m n. ap (λ (k : ℕ). raise_number k 1 n) m;
  variable = λ d e m n. ap Var (unraised d.variables n ∙ sym (unraised e.variables n));
  deeper_location = λ d e m. ap (λ (k : ℕ). k + 1) m;
  deeper_variable = λ d e m. m;
}

raised_beneath : (t : Ty) → raise one_location t ≡ walk (raising one_location) (below_variable outside) t
unfolding below_variable
raised_beneath t = walk_alike same_beneath outside (below_variable outside) refl t

pub package_raised : (g : Substitution) (l : Location) (q : Qual) (s : ℕ) (t : Ty) → walk_heap (substituting (onto (placed l) g)) outside (Exist q s (raise one_location t)) ≡ Exist q s (type_body g t)
package_raised g l q s t =
    package_at (onto (placed l) g) q s (raise one_location t)
    ∙ ap (λ (u : Ty). Exist q s (type_body (onto (placed l) g) u)) (raised_beneath t)
    ∙ ap (Exist q s) (raised_stays (placed l) g (below_variable outside) t)
