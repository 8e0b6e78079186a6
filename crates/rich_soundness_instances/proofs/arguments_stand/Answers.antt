use Rattle.rich_soundness_instances.proofs.Argued as laws
use Rattle.rich_soundness_instances.proofs.arguments_stand.Goals as goal

pub returns-clause-answer : goal.returns-clause-answer
returns-clause-answer c = laws.arguments_answer

pub returns-clause-put_in : goal.returns-clause-put_in
returns-clause-put_in c = laws.instances_put_in

pub returns-clause-sizes : goal.returns-clause-sizes
returns-clause-sizes c = laws.sizes_kept
