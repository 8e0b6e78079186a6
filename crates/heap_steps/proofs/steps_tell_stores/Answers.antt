use Rattle.heap_steps.proofs.Stores.{steps_tell_stores, steps_keep_heaps}
use Rattle.heap_steps.proofs.steps_tell_stores.Goals as goal

pub returns-clause-stores : goal.returns-clause-stores
returns-clause-stores c = steps_tell_stores

pub returns-clause-heap : goal.returns-clause-heap
returns-clause-heap c = steps_keep_heaps
