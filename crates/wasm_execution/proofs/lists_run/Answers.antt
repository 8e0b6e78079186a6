use Rattle.wasm_execution.proofs.ControlRows.{alone-takes, branch-takes, branch-if-takes, loop-takes, endless-goes, table-takes, one-arm-takes, empty-else-takes, return-takes, select-takes, divisions-trap, stuck-without}
use Rattle.wasm_execution.proofs.lists_run.Goals as goal

pub returns-clause-alone : goal.returns-clause-alone
returns-clause-alone c = alone-takes

pub returns-clause-branch : goal.returns-clause-branch
returns-clause-branch c = branch-takes

pub returns-clause-branch_if : goal.returns-clause-branch_if
returns-clause-branch_if c = branch-if-takes

pub returns-clause-repeated : goal.returns-clause-repeated
returns-clause-repeated c = loop-takes

pub returns-clause-endless : goal.returns-clause-endless
returns-clause-endless c = endless-goes

pub returns-clause-table : goal.returns-clause-table
returns-clause-table c = table-takes

pub returns-clause-one_arm : goal.returns-clause-one_arm
returns-clause-one_arm c = one-arm-takes

pub returns-clause-empty_else : goal.returns-clause-empty_else
returns-clause-empty_else c = empty-else-takes

pub returns-clause-returned : goal.returns-clause-returned
returns-clause-returned c = return-takes

pub returns-clause-select : goal.returns-clause-select
returns-clause-select c = select-takes

pub returns-clause-divisions : goal.returns-clause-divisions
returns-clause-divisions c = divisions-trap

pub returns-clause-stuck : goal.returns-clause-stuck
returns-clause-stuck c = stuck-without
