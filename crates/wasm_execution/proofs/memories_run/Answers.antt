use Rattle.wasm_execution.proofs.MemoryRows.{load-traps, store-traps, store-takes, grow-takes, grow-fails, size-takes}
use Rattle.wasm_execution.proofs.memories_run.Goals as goal

pub returns-clause-load_traps : goal.returns-clause-load_traps
returns-clause-load_traps c = load-traps

pub returns-clause-store_traps : goal.returns-clause-store_traps
returns-clause-store_traps c = store-traps

pub returns-clause-stored : goal.returns-clause-stored
returns-clause-stored c = store-takes

pub returns-clause-grown : goal.returns-clause-grown
returns-clause-grown c = grow-takes

pub returns-clause-not_grown : goal.returns-clause-not_grown
returns-clause-not_grown c = grow-fails

pub returns-clause-size : goal.returns-clause-size
returns-clause-size c = size-takes
