use Rattle.std.proofs.Common.{subst}
use Rattle.std.proofs.Common.{◌≡◌, true}
use Rattle.rich_rules.specs.Equality.{same, same_function}
use Rattle.rich_rules_laws.proofs.Compared.{sound, reflexive, sound_function, reflexive_function}
use Rattle.rich_rules_laws.proofs.Formed.{formed-true, formed-from, all_formed-true, all_formed-from}
use Rattle.rich_rules_laws.proofs.laws.types_told.Goals as goal

pub returns-clause-compared : goal.returns-clause-compared
returns-clause-compared c = λ t u. (sound t u, λ e. subst (λ x. same t x ≡ true) e (reflexive t))

pub returns-clause-functions_compared : goal.returns-clause-functions_compared
returns-clause-functions_compared c = λ f g. (sound_function f g, λ e. subst (λ x. same_function f x ≡ true) e (reflexive_function f))

pub returns-clause-formed : goal.returns-clause-formed
returns-clause-formed c = λ s t. (formed-true s t, formed-from s t)

pub returns-clause-all_formed : goal.returns-clause-all_formed
returns-clause-all_formed c = λ s ts. (all_formed-true s ts, all_formed-from s ts)
