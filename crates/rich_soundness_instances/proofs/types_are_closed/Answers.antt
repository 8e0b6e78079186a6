use Rattle.rich_soundness_instances.proofs.Closed as laws
use Rattle.rich_soundness_instances.proofs.types_are_closed.Goals as goal

pub returns-clause-types : goal.returns-clause-types
returns-clause-types c = laws.types_are_closed

pub returns-clause-functions : goal.returns-clause-functions
returns-clause-functions c = laws.functions_are_closed
