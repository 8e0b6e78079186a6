-- Sizes of types where closed types stand for variables.
use Rattle.std.proofs.Common.{◌≡◌, ◌∙◌, ℕ, zero, suc, ◌+◌, ◌-◌, List, [], ◌∷◌, length, true, false, refl, sym, ap, arith}
use Rattle.std.specs.Prelude.{slice_get, nat_lt, if◌then◌else◌}
use Rattle.rw_types.specs.declared.types.Mem.{Mem}
use Rattle.rw_types.specs.declared.types.Ty.{Ty, Of, Var, Rec', Row_of-Ty, end_of-Ty, more_of-Ty}
use Rattle.rw_types.specs.declared.types.Pre.{Pre, Unit, I32, I64, Tuple', Ref, Ptr, Cap, Own, Hidden', Code', end_of-FunType, more_of-FunType}
use Rattle.rich_types.specs.declared.depth.Depth.{Depth}
use Rattle.rich_types.specs.declared.variables.VariableKind.{VariableKind}
use Rattle.rich_types.specs.Scopes.{Scope, no_scope, with_location}
use Rattle.rich_types.specs.Sizes.{variable_size, size_under, pre_size, row_size, list_size}
use Rattle.rich_types.specs.Walks.{Leaves, outside, below_location, below_variable, below, walk, walk_pre, walk_row}
use Rattle.rich_types.specs.Instances.{Substitution, raise_number, raising, raise, substituting, found_or}
use Rattle.rich_types.proofs.Sized.{size-Tuple, size-Hidden, size-Code, size-Rec}
use Rattle.rich_types_laws.proofs.Composed.{look_out}
use Rattle.rich_soundness_values.specs.Heaps.{TypesAnswer, size_of}
use Rattle.rich_soundness_binders.specs.Laws.{SizesStay}

-- leaves that keep the sizes of variables, at depths and scopes that stand in step
record KeepsSizes (f : Leaves) (At : Depth → Scope → Scope → Type 0) : Type 0 where
  pub variable : (d : Depth) (c e : Scope) → At d c e → (n : ℕ) → size_under e (f.variable d n) ≡ variable_size (slice_get c.variables n)
  pub deeper : (d : Depth) (c e : Scope) → At d c e → (m : Mem) → At (below_location d) (with_location m c) (with_location m e)

module _ {f : Leaves} {At : Depth → Scope → Scope → Type 0} (keeps : KeepsSizes f At) where
  mutual
    kept : (d : Depth) (c e : Scope) → At d c e → (t : Ty) → size_under e (walk f d t) ≡ size_under c t
    kept d c e a (Of q p) = kept_pre d c e a p
    kept d c e a (Var n) = keeps.variable d c e a n
    kept d c e a (Rec' q s r (more_of-Ty t end_of-Ty)) = size-Rec e q s (walk f (below_variable d) t)

    kept_pre : (d : Depth) (c e : Scope) → At d c e → (p : Pre) → pre_size e (walk_pre f d p) ≡ pre_size c p
    kept_pre d c e a Unit = refl
    kept_pre d c e a I32 = refl
    kept_pre d c e a I64 = refl
    kept_pre d c e a (Tuple' m ts) = size-Tuple e (walk_row f d ts) ∙ kept_row d c e a ts
    kept_pre d c e a (Ref p l h) = refl
    kept_pre d c e a (Ptr l) = refl
    kept_pre d c e a (Cap p l h) = refl
    kept_pre d c e a (Own l) = refl
    kept_pre d c e a (Hidden' m r (more_of-Ty t end_of-Ty)) = size-Hidden e m (walk f (below_location d) t) ∙ kept (below_location d) (with_location m c) (with_location m e) (keeps.deeper d c e a m) t
    kept_pre d c e a (Code' r (more_of-FunType bs m ps n rs end_of-FunType)) = size-Code e (record { binders = bs; params = walk_row f (below bs d) ps; results = walk_row f (below bs d) rs })

    kept_row : {n : _} (d : Depth) (c e : Scope) → At d c e → (ts : Row_of-Ty n) → list_size e (walk_row f d ts) ≡ row_size c ts
    kept_row d c e a end_of-Ty = refl
    kept_row d c e a (more_of-Ty t ts) = omega (arith, kept d c e a t, kept_row d c e a ts)

-- raising past locations alone
raises_locations : (by : Depth) → by.variables ≡ 0 → KeepsSizes (raising by) (λ d c e. e.variables ≡ c.variables)
raises_locations by none = record {
  variable = λ d c e a n. ap (λ (k : ℕ). size_under e (Var (raise_number d.variables k n))) none
      ∙ ap (λ (k : ℕ). size_under e (Var k)) (unraised d.variables n) ∙ ap (λ (vs : List VariableKind). variable_size (slice_get vs n)) a;
  deeper = λ d c e a m. a;
} where
  unraised : (d n : ℕ) → raise_number d 0 n ≡ n
  unraised d n = let e : n + 0 ≡ n = omega arith in elim (nat_lt n d) as (λ b. (let k : ℕ = if b then n else n + 0 in k ≡ n)) [ true ↦ refl | false ↦ e ]

size_raised : (d : Depth) (e : Scope) (t : Ty) → d.variables ≡ 0 → e.variables ≡ [] → size_under e (raise d t) ≡ size_of t
size_raised d e t none empty = kept (raises_locations d none) outside no_scope e empty t

-- what answers a variable has its size
found_size : (e : Scope) (d : Depth) (ts : List Ty) (ks : List VariableKind) (n : ℕ) (free : ℕ) → TypesAnswer ts ks → d.variables ≡ 0 → e.variables ≡ [] →
    size_under e (found_or (slice_get ts n) (λ t. raise d t) (Var free)) ≡ variable_size (slice_get ks n)
found_size e d [] [] n free a z empty = ap (λ (vs : List VariableKind). variable_size (slice_get vs free)) empty
found_size e d [] (k ∷ ks) n free a z empty = absurd a
found_size e d (t ∷ ts) [] n free a z empty = absurd a
found_size e d (t ∷ ts) (k ∷ ks) zero free a z empty = size_raised d e t z empty ∙ a.0.sized
found_size e d (t ∷ ts) (k ∷ ks) (suc n) free a z empty = found_size e d ts ks n free a.1 z empty

record Below (vs : List VariableKind) (d : Depth) (c e : Scope) : Type 0 where
  pub none : d.variables ≡ 0
  pub these : c.variables ≡ vs
  pub empty : e.variables ≡ []

answers_keep : (g : Substitution) (vs : List VariableKind) → TypesAnswer g.variables vs → KeepsSizes (substituting g) (Below vs)
unfolding below_location
answers_keep g vs a = record {
  variable = λ d c e b n.
      ap (size_under e) (look_out g.variables (λ t. raise d t) (λ m. Var m) d.variables n n (omega (arith, b.none)))
      ∙ found_size e d g.variables vs n (n - length g.variables) a b.none b.empty
      ∙ ap (λ (ks : List VariableKind). variable_size (slice_get ks n)) (sym b.these);
  deeper = λ d c e b m. record { none = b.none; these = b.these; empty = b.empty };
}

pub sizes_stay : SizesStay
sizes_stay g c t a = kept (answers_keep g c.variables a.variables) outside c no_scope (record { none = refl; these = refl; empty = refl }) t
