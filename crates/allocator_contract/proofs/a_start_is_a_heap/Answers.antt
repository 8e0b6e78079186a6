use Rattle.allocator_contract.proofs.Starting.{start_is_heap}
use Rattle.allocator_contract.proofs.a_start_is_a_heap.Goals as goal

pub returns : goal.returns
returns c = start_is_heap
