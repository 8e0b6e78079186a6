use Rattle.wasm_execution.proofs.EventRows.{allocators-told, others-not-told, argument-kept, stop-told}
use Rattle.wasm_execution.proofs.MemoryRows.{touch-told, inside-not-told}
use Rattle.wasm_execution.proofs.events_are_told.Goals as goal

pub returns-clause-allocators : goal.returns-clause-allocators
returns-clause-allocators c = allocators-told

pub returns-clause-others : goal.returns-clause-others
returns-clause-others c = others-not-told

pub returns-clause-argument : goal.returns-clause-argument
returns-clause-argument c = argument-kept

pub returns-clause-stopped : goal.returns-clause-stopped
returns-clause-stopped c = stop-told

pub returns-clause-touched : goal.returns-clause-touched
returns-clause-touched c = touch-told

pub returns-clause-inside : goal.returns-clause-inside
returns-clause-inside c = inside-not-told
