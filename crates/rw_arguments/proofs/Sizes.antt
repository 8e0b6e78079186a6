-- The size of a well-formed type is not cut off.
use Rattle.std.proofs.Common.{◌≡◌, ◌≤◌, ℕ, true, ap, min, arith}
use Rattle.std.specs.Prelude.{◌==◌}
use Rattle.rw_types.specs.declared.types.Ty.{Ty}
use Rattle.rich_types.specs.Scopes.{Scope}
use Rattle.rich_types.specs.Sizes.{size_under}
use Rattle.rich_types.proofs.Bounded.{size-well_formed}
use Rattle.rich_rules.specs.Forms.{is_formed}
use Rattle.rich_rules_laws.proofs.Formed.{formed-true}

uncapped : (n r : ℕ) → n ≤ 10000 → r ≡ min n 10001 → r ≡ n
uncapped n r few e = omega arith

pub told_size : (c : Scope) (t : Ty) (s r : ℕ) → is_formed c t ≡ true → r ≡ min (size_under c t) 10001 → (r == s) ≡ (size_under c t == s)
told_size c t s r formed e = ap (λ (n : ℕ). n == s) (uncapped (size_under c t) r (size-well_formed c t (formed-true c t formed)) e)
