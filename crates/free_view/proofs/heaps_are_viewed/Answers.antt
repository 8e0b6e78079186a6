use Rattle.free_view.proofs.Reading.{heap_is_viewed, allocators_keep_views}
use Rattle.free_view.proofs.heaps_are_viewed.Goals as goal

pub returns-clause-heap : goal.returns-clause-heap
returns-clause-heap c = heap_is_viewed

pub returns-clause-within : goal.returns-clause-within
returns-clause-within c = allocators_keep_views
