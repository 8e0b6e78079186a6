use Rattle.rich_linking_laws.proofs.Kept.{kept}
use Rattle.rich_linking_laws.proofs.Files.{linked_typed}
use Rattle.rich_linking_laws.proofs.laws.linked_bodies.Goals as goal

pub returns-clause-kept : goal.returns-clause-kept
returns-clause-kept c = λ k f g d p is notes same x. kept k f g same is x

pub returns-clause-typed : goal.returns-clause-typed
returns-clause-typed c = linked_typed
