use Rattle.heap_histories.proofs.Growing.{runs_grow, heaps_grow, honesty_grows, safety_grows}
use Rattle.heap_histories.proofs.histories_grow.Goals as goal

pub returns-clause-runs : goal.returns-clause-runs
returns-clause-runs c = runs_grow

pub returns-clause-heaps : goal.returns-clause-heaps
returns-clause-heaps c = heaps_grow

pub returns-clause-honest : goal.returns-clause-honest
returns-clause-honest c = honesty_grows

pub returns-clause-safe : goal.returns-clause-safe
returns-clause-safe c = safety_grows
