use Rattle.lowered_heap.proofs.Functions.{first_is_allocator, second_is_allocator, third_is_allocator}
use Rattle.lowered_heap.proofs.lowered_modules_have_allocators.Goals as goal

pub returns-clause-first : goal.returns-clause-first
returns-clause-first c = first_is_allocator

pub returns-clause-second : goal.returns-clause-second
returns-clause-second c = second_is_allocator

pub returns-clause-third : goal.returns-clause-third
returns-clause-third c = third_is_allocator
