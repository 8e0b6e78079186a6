-- Two tests that hold where the same holds are one.
use Rattle.std.proofs.Common.{◌≡◌, Bool, true, false, refl, subst}
use Rattle.std.specs.Prelude.{◌↔◌, IsTrue}
use Rattle.std.proofs.lemmas.Bool.{false≢true}
use Rattle.rw_types.specs.declared.types.Ty.{Ty}
use Rattle.rich_types.specs.Scopes.{Scope}
use Rattle.rich_types.specs.WellFormed.{IsWellFormed}
use Rattle.rich_rules.specs.Equality.{same}
use Rattle.rich_rules.specs.Forms.{is_formed}
use Rattle.rich_rules_laws.proofs.Compared.{sound, reflexive}
use Rattle.rich_rules_laws.proofs.Formed.{formed-true, formed-from}

one_test : {X : Type 0} (p q : Bool) → (IsTrue p ↔ X) → (IsTrue q ↔ X) → p ≡ q
one_test true true f g = refl
one_test false false f g = refl
one_test true false f g = absurd (false≢true (g.1 (f.0 refl)))
one_test false true f g = absurd (false≢true (f.1 (g.0 refl)))

pub same_told : (a b : Ty) (r : Bool) → (IsTrue r ↔ (a ≡ b)) → r ≡ same a b
same_told a b r f = one_test r (same a b) f (sound a b, λ e. subst (λ x. same a x ≡ true) e (reflexive a))

pub formed_told : (c : Scope) (t : Ty) (r : Bool) → (IsTrue r ↔ IsWellFormed c t) → r ≡ is_formed c t
formed_told c t r f = one_test r (is_formed c t) f (formed-true c t, formed-from c t)
