use Rattle.lowered_heap.proofs.Stores.{first_is_at_start, modules_start_with_heaps, modules_have_bytes}
use Rattle.lowered_heap.proofs.lowered_modules_start_with_a_heap.Goals as goal

pub returns-clause-first : goal.returns-clause-first
returns-clause-first c = first_is_at_start

pub returns-clause-start : goal.returns-clause-start
returns-clause-start c = modules_start_with_heaps

pub returns-clause-bytes : goal.returns-clause-bytes
returns-clause-bytes c = modules_have_bytes
