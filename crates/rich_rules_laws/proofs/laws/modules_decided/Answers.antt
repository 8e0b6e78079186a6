use Rattle.rich_rules.specs.Modules.{parts_of}
use Rattle.rich_rules_laws.proofs.Decided.{module_decided}
use Rattle.rich_rules_laws.proofs.Unique.{one_typing, typed_never_violated, one_violated, same_parts}
use Rattle.rich_rules_laws.proofs.laws.modules_decided.Goals as goal

pub returns-clause-either : goal.returns-clause-either
returns-clause-either c = module_decided

pub returns-clause-never_both : goal.returns-clause-never_both
returns-clause-never_both c = λ m notes place broken found expected x y. typed_never_violated (parts_of m) x y

pub returns-clause-one_derivation : goal.returns-clause-one_derivation
returns-clause-one_derivation c = λ m notes others x y. one_typing (parts_of m) x y

pub returns-clause-one_violation : goal.returns-clause-one_violation
returns-clause-one_violation c = λ m place other broken breaks found expected finds expects x y.
    (let both = one_violated (parts_of m) x y in let parts = same_parts broken breaks found expected finds expects both.1 in (both.0, parts.0, parts.1, parts.2))
