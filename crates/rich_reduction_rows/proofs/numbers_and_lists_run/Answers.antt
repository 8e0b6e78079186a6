use Rattle.rich_reduction_rows.proofs.ControlRuns.{overflow, unreachable, endless, calls, branch, repeated, returned, taken, operands}
use Rattle.rich_reduction_rows.proofs.numbers_and_lists_run.Goals as goal

pub returns-clause-overflow : goal.returns-clause-overflow
returns-clause-overflow c = overflow

pub returns-clause-unreachable : goal.returns-clause-unreachable
returns-clause-unreachable c = unreachable

pub returns-clause-endless : goal.returns-clause-endless
returns-clause-endless c = endless

pub returns-clause-calls : goal.returns-clause-calls
returns-clause-calls c = calls

pub returns-clause-branch : goal.returns-clause-branch
returns-clause-branch c = branch

pub returns-clause-repeated : goal.returns-clause-repeated
returns-clause-repeated c = repeated

pub returns-clause-returned : goal.returns-clause-returned
returns-clause-returned c = returned

pub returns-clause-taken : goal.returns-clause-taken
returns-clause-taken c = taken

pub returns-clause-operands : goal.returns-clause-operands
returns-clause-operands c = operands
