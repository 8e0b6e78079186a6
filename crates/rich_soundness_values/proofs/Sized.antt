-- The size of a type does not look at its locations.
use Rattle.std.proofs.Common.{◌≡◌, ℕ, ◌-◌, List, [], true, false, refl, ap, ◌∙◌, arith}
use Rattle.std.specs.Prelude.{slice_get, nat_lt, if◌then◌else◌}
use Rattle.rw_types.specs.declared.types.Ty.{Ty, Of, Var, Rec', Row_of-Ty, end_of-Ty, more_of-Ty}
use Rattle.rw_types.specs.declared.types.Pre.{Pre, Unit, I32, I64, Tuple', Ref, Ptr, Cap, Own, Hidden', Code', end_of-FunType, more_of-FunType}
use Rattle.rich_types.specs.declared.depth.Depth.{Depth}
use Rattle.rich_types.specs.declared.variables.VariableKind.{VariableKind}
use Rattle.rich_types.specs.Scopes.{Scope, with_location}
use Rattle.rich_types.specs.Sizes.{variable_size, size_under, pre_size, row_size, list_size}
use Rattle.rich_types.specs.Walks.{Leaves, outside, below_location, below_variable, below, walk, walk_binders, walk_pre, walk_row}
use Rattle.rich_types.specs.Instances.{substituting}
use Rattle.rich_types.proofs.Sized.{size-Tuple, size-Hidden, size-Code, size-Rec}

module _ (f : Leaves) (keeps : (d : Depth) (n : ℕ) → f.variable d n ≡ Var n) where
  mutual
    sized : (c e : Scope) (d : Depth) → e.variables ≡ c.variables → (t : Ty) → size_under e (walk f d t) ≡ size_under c t
    sized c e d same (Of q p) = sized_pre c e d same p
    sized c e d same (Var n) = ap (size_under e) (keeps d n) ∙ ap (λ (vs : List VariableKind). variable_size (slice_get vs n)) same
    sized c e d same (Rec' q s a (more_of-Ty t end_of-Ty)) = size-Rec e q s (walk f (below_variable d) t)

    sized_pre : (c e : Scope) (d : Depth) → e.variables ≡ c.variables → (p : Pre) → pre_size e (walk_pre f d p) ≡ pre_size c p
    sized_pre c e d same Unit = refl
    sized_pre c e d same I32 = refl
    sized_pre c e d same I64 = refl
    sized_pre c e d same (Tuple' m ts) = size-Tuple e (walk_row f d ts) ∙ sized_row c e d same ts
    sized_pre c e d same (Ref p l h) = refl
    sized_pre c e d same (Ptr l) = refl
    sized_pre c e d same (Cap p l h) = refl
    sized_pre c e d same (Own l) = refl
    sized_pre c e d same (Hidden' m a (more_of-Ty t end_of-Ty)) = size-Hidden e m (walk f (below_location d) t) ∙ sized (with_location m c) (with_location m e) (below_location d) same t
    sized_pre c e d same (Code' a (more_of-FunType bs m ps n rs end_of-FunType)) = size-Code e (record { binders = walk_binders f d bs; params = walk_row f (below bs d) ps; results = walk_row f (below bs d) rs })

    sized_row : {n : _} (c e : Scope) (d : Depth) → e.variables ≡ c.variables → (ts : Row_of-Ty n) → list_size e (walk_row f d ts) ≡ row_size c ts
    sized_row c e d same end_of-Ty = refl
    sized_row c e d same (more_of-Ty t ts) = omega (arith, sized c e d same t, sized_row c e d same ts)

-- a substitution of locations alone
variables_stay : (ns : List ℕ) (d : Depth) (n : ℕ) → (substituting (record { locations = ns; variables = [] })).variable d n ≡ Var n
variables_stay ns d n = elim (nat_lt n d.variables) as (λ b. (let t : Ty = if b then Var n else Var (n - 0) in t ≡ Var n)) [
  | true ↦ refl
  | false ↦ ap Var (let e : n - 0 ≡ n = omega arith in e)
]

pub size_with_location : (c : Scope) (ns : List ℕ) (t : Ty) (e : Scope) → e.variables ≡ c.variables → size_under e (walk (substituting (record { locations = ns; variables = [] })) outside t) ≡ size_under c t
size_with_location c ns t e same = sized (substituting (record { locations = ns; variables = [] })) (variables_stay ns) c e outside same t
