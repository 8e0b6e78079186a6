-- Binders looked at from the innermost outwards.
use Rattle.std.proofs.Common.{◌≡◌, ◌<◌, ◌≤◌, ◌+◌, ◌-◌, ◌∙◌, ℕ, suc, List, [], ◌∷◌, ◌++◌, length, take, get_or, Some, refl, ap, arith}
use Rattle.std.proofs.lemmas.List.{take_more}
use Rattle.rw_types.specs.declared.types.Binder.{Binder}
use Rattle.rw_types.specs.declared.types.Binder.TheVariants.{Loc, Kind}
use Rattle.rw_types.specs.declared.types.Mem.{Mem}
use Rattle.rw_types.specs.declared.types.Qual.{Qual}
use Rattle.rich_types.specs.Scopes.{Scope, within, with_location, with_variable, memory_of, variable_of}

within-last : (bs : List Binder) (b : Binder) (c : Scope) → within (bs ++ b ∷ []) c ≡ within (b ∷ []) (within bs c)
within-last [] b c = refl
within-last (Loc m ∷ bs) b c = within-last bs b (with_location m c)
within-last (Kind q s ∷ bs) b c = within-last bs b (with_variable q s c)

-- the innermost of the first binders
module _ (bs : List Binder) (at : ℕ) (some : 0 < at) (within_list : at ≤ length bs) (d b : Binder) (is : get_or bs (at - 1) d ≡ b) where
  pub within-take : (c : Scope) → within (take at bs) c ≡ within (b ∷ []) (within (take (at - 1) bs) c)
  within-take c =
      let lt : at - 1 < length bs = omega arith in
      let e : at ≡ (at - 1) + 1 = omega arith in
      ap (λ (n : ℕ). within (take n bs) c) e ∙ ap (λ l. within l c) (take_more bs (at - 1) d lt)
      ∙ ap (λ x. within (take (at - 1) bs ++ x ∷ []) c) is ∙ within-last (take (at - 1) bs) b c

-- a number among the first binders, by the last of these
module _ (bs : List Binder) (at n : ℕ) (some : 0 < at) (within_list : at ≤ length bs) (d : Binder) where
  pub location_here : (m : Mem) → get_or bs (at - 1) d ≡ Loc m → n ≡ 0 → (c : Scope) → memory_of (within (take at bs) c) n ≡ Some m
  location_here m is e c = ap (λ (k : ℕ). memory_of (within (take at bs) c) k) e ∙ ap (λ s. memory_of s 0) (within-take bs at some within_list d _ is c)

  pub location_further : (m : Mem) → get_or bs (at - 1) d ≡ Loc m → 0 < n → (c : Scope) → memory_of (within (take at bs) c) n ≡ memory_of (within (take (at - 1) bs) c) (n - 1)
  location_further m is h c = let e : n ≡ suc (n - 1) = omega arith in
      ap (λ (k : ℕ). memory_of (within (take at bs) c) k) e ∙ ap (λ s. memory_of s (suc (n - 1))) (within-take bs at some within_list d _ is c)

  pub location_past : (q : Qual) (s : ℕ) → get_or bs (at - 1) d ≡ Kind q s → (c : Scope) → memory_of (within (take at bs) c) n ≡ memory_of (within (take (at - 1) bs) c) n
  location_past q s is c = ap (λ x. memory_of x n) (within-take bs at some within_list d _ is c)

  pub variable_here : (q : Qual) (s : ℕ) → get_or bs (at - 1) d ≡ Kind q s → n ≡ 0 → (c : Scope) → variable_of (within (take at bs) c) n ≡ Some (record { qual = q; size = s })
  variable_here q s is e c = ap (λ (k : ℕ). variable_of (within (take at bs) c) k) e ∙ ap (λ x. variable_of x 0) (within-take bs at some within_list d _ is c)

  pub variable_further : (q : Qual) (s : ℕ) → get_or bs (at - 1) d ≡ Kind q s → 0 < n → (c : Scope) → variable_of (within (take at bs) c) n ≡ variable_of (within (take (at - 1) bs) c) (n - 1)
  variable_further q s is h c = let e : n ≡ suc (n - 1) = omega arith in
      ap (λ (k : ℕ). variable_of (within (take at bs) c) k) e ∙ ap (λ x. variable_of x (suc (n - 1))) (within-take bs at some within_list d _ is c)

  pub variable_past : (m : Mem) → get_or bs (at - 1) d ≡ Loc m → (c : Scope) → variable_of (within (take at bs) c) n ≡ variable_of (within (take (at - 1) bs) c) n
  variable_past m is c = ap (λ x. variable_of x n) (within-take bs at some within_list d _ is c)
