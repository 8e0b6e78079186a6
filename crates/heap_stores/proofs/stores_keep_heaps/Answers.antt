use Rattle.heap_stores.proofs.Storing.{stores_keep_heaps, stores_stay_inside}
use Rattle.heap_stores.proofs.stores_keep_heaps.Goals as goal

pub returns-clause-heap : goal.returns-clause-heap
returns-clause-heap c = stores_keep_heaps

pub returns-clause-words : goal.returns-clause-words
returns-clause-words c = stores_stay_inside
