use Rattle.rich_rules_laws.proofs.Decided.{list_decided}
use Rattle.rich_rules_laws.proofs.Unique.{one_derivation, never_both, one_violation}
use Rattle.rich_rules_laws.proofs.laws.bodies_decided.Goals as goal

pub returns-clause-either : goal.returns-clause-either
returns-clause-either c = list_decided

pub returns-clause-never_both : goal.returns-clause-never_both
returns-clause-never_both c = λ f d p at is notes path b x y. never_both f is x y

pub returns-clause-one_derivation : goal.returns-clause-one_derivation
returns-clause-one_derivation c = λ f d p is notes others x y. one_derivation f is x y

pub returns-clause-one_violation : goal.returns-clause-one_violation
returns-clause-one_violation c = λ f d p at is path others b e x y. one_violation f is x y
