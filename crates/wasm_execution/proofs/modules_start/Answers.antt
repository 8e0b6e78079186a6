use Rattle.wasm_execution.proofs.StartRows.{start-takes, start-traps, trap-codes-count, unknown-imports, segments-out, no-mains, number-kept}
use Rattle.wasm_execution.proofs.modules_start.Goals as goal

pub returns-clause-start : goal.returns-clause-start
returns-clause-start c = start-takes

pub returns-clause-start_traps : goal.returns-clause-start_traps
returns-clause-start_traps c = start-traps

pub returns-clause-trap_code : goal.returns-clause-trap_code
returns-clause-trap_code c = trap-codes-count

pub returns-clause-imports : goal.returns-clause-imports
returns-clause-imports c = unknown-imports

pub returns-clause-segments : goal.returns-clause-segments
returns-clause-segments c = segments-out

pub returns-clause-no_main : goal.returns-clause-no_main
returns-clause-no_main c = no-mains

pub returns-clause-number : goal.returns-clause-number
returns-clause-number c = number-kept
