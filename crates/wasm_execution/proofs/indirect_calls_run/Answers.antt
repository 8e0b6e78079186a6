use Rattle.wasm_execution.proofs.CallRows.{same-type-takes, argument-takes, print-takes, indirect-traps}
use Rattle.wasm_execution.proofs.indirect_calls_run.Goals as goal

pub returns-clause-same_type : goal.returns-clause-same_type
returns-clause-same_type c = same-type-takes

pub returns-clause-argument : goal.returns-clause-argument
returns-clause-argument c = argument-takes

pub returns-clause-printed : goal.returns-clause-printed
returns-clause-printed c = print-takes

pub returns-clause-traps : goal.returns-clause-traps
returns-clause-traps c = indirect-traps
