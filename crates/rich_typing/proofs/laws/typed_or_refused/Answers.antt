-- What holds of bodies holds of modules of one function, and any other module is not built yet.
use Rattle.rich_typing.proofs.LoneModules.{typed_or_refused, one_derivation, module_never_both, one_violation}
use Rattle.rich_typing.proofs.laws.typed_or_refused.Goals as goal

pub returns-clause-either : goal.returns-clause-either
returns-clause-either c = typed_or_refused

pub returns-clause-never_both : goal.returns-clause-never_both
returns-clause-never_both c = module_never_both

pub returns-clause-one_derivation : goal.returns-clause-one_derivation
returns-clause-one_derivation c = one_derivation

pub returns-clause-one_violation : goal.returns-clause-one_violation
returns-clause-one_violation c = one_violation
