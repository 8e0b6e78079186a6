-- The scope within one type binder more, and the size of a well-formed type.
use Rattle.std.proofs.Common.{◌≡◌, ◌≤◌, ◌++◌, ℕ, List, [], ◌∷◌, true, refl, ap, min, arith}
use Rattle.std.specs.Prelude.{◌==◌}
use Rattle.rw_types.specs.declared.types.Binder.{Binder}
use Rattle.rw_types.specs.declared.types.Binder.TheVariants.{Loc, Kind}
use Rattle.rw_types.specs.declared.types.Qual.{Qual}
use Rattle.rw_types.specs.declared.types.Ty.{Ty}
use Rattle.rich_types.specs.Scopes.{Scope, with_location, with_variable, within, scope_of}
use Rattle.rich_types.specs.Sizes.{size_under}
use Rattle.rich_types.proofs.Bounded.{size-well_formed}
use Rattle.rich_rules.specs.Forms.{is_formed}
use Rattle.rich_rules_laws.proofs.Formed.{formed-true}

within-last : (bs : List Binder) (q : Qual) (s : ℕ) (c : Scope) → within (bs ++ Kind q s ∷ []) c ≡ with_variable q s (within bs c)
within-last [] q s c = refl
within-last (Loc m ∷ bs) q s c = within-last bs q s (with_location m c)
within-last (Kind r n ∷ bs) q s c = within-last bs q s (with_variable r n c)

pub variable_last : (bs : List Binder) (q : Qual) (s : ℕ) → scope_of (bs ++ Kind q s ∷ []) ≡ with_variable q s (scope_of bs)
variable_last bs q s = within-last bs q s (scope_of [])

uncapped : (n r : ℕ) → n ≤ 10000 → r ≡ min n 10001 → r ≡ n
uncapped n r few e = omega arith

pub told_size : (c : Scope) (t : Ty) (s r : ℕ) → is_formed c t ≡ true → r ≡ min (size_under c t) 10001 → (r == s) ≡ (size_under c t == s)
told_size c t s r formed e = ap (λ (n : ℕ). n == s) (uncapped (size_under c t) r (size-well_formed c t (formed-true c t formed)) e)
