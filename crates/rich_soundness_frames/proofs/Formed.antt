-- What stands in a new cell is well formed, and types that are raised past its location keep their qualifiers.
use Rattle.std.proofs.Common.{◌≡◌, ℕ, ◌+◌, true, false, refl, ap, subst, arith}
use Rattle.std.specs.Prelude.{IsTrue, nat_lt, if◌then◌else◌, slice_get}
use Rattle.rw_types.specs.declared.types.Heap.{Heap}
use Rattle.rw_types.specs.declared.types.Mem.{Mem}
use Rattle.rw_types.specs.declared.types.Pre.{Ref}
use Rattle.rw_types.specs.declared.types.Priv.TheVariants.{Rw}
use Rattle.rw_types.specs.declared.types.Qual.{Qual}
use Rattle.rw_types.specs.declared.types.Qual.TheVariants.{Unr, Lin}
use Rattle.rw_types.specs.declared.types.Ty.{Ty, Of, Var, Rec', end_of-Ty, more_of-Ty}
use Rattle.rich_types.specs.Scopes.{Scope, with_location}
use Rattle.rich_types.specs.Sizes.{qual_under, variable_qual}
use Rattle.rich_types.specs.WellFormed.{IsAtMost, IsWellFormedHeap}
use Rattle.rich_types.specs.Instances.{raise, raise_number}
use Rattle.rich_types.proofs.Sized.{form-Hidden}
use Rattle.rich_rules.specs.Forms.{is_formed}
use Rattle.rich_rules.specs.Raised.{one_location}
use Rattle.rich_rules.specs.Structs.{qual_of_new, new_cell}
use Rattle.rich_rules_laws.proofs.Formed.{formed-true}

pub new_heap_formed : (c : Scope) (m : Mem) (h : Heap) → IsTrue (is_formed c (new_cell m h)) → IsWellFormedHeap (with_location m c) m h
new_heap_formed c m h formed = (subst (λ (P : Type 0). P) (form-Hidden c (qual_of_new m) m (Of (qual_of_new m) (Ref Rw 0 h))) (formed-true c (new_cell m h) formed).1).0.1.1

pub least : (q : Qual) → IsAtMost q Unr → q ≡ Unr
least Unr a = refl
least Lin a = absurd a

unraised : (n : ℕ) → raise_number 0 0 n ≡ n
unraised n = let e : n + 0 ≡ n = omega arith in elim (nat_lt n 0) as (λ b. (let k : ℕ = if b then n else n + 0 in k ≡ n)) [ true ↦ refl | false ↦ e ]

pub raised_qual : (c : Scope) (m : Mem) (t : Ty) → qual_under (with_location m c) (raise one_location t) ≡ qual_under c t
raised_qual c m (Of q p) = refl
raised_qual c m (Var n) = ap (λ (k : ℕ). variable_qual (slice_get c.variables k)) (unraised n)
raised_qual c m (Rec' q s a (more_of-Ty t end_of-Ty)) = refl
