use Rattle.heap_histories.proofs.Starting.{start_is_heap_after, free_list_is_read}
use Rattle.heap_histories.proofs.heaps_begin.Goals as goal

pub returns-clause-start : goal.returns-clause-start
returns-clause-start c = start_is_heap_after

pub returns-clause-read : goal.returns-clause-read
returns-clause-read c = free_list_is_read
