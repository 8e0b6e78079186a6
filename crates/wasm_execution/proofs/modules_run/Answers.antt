use Rattle.wasm_execution.proofs.Rows.{printing-takes, starting-takes, dropping-takes, adding-takes, exhausted-takes}
use Rattle.wasm_execution.proofs.modules_run.Goals as goal

pub returns-clause-printing : goal.returns-clause-printing
returns-clause-printing c = printing-takes

pub returns-clause-starting : goal.returns-clause-starting
returns-clause-starting c = starting-takes

pub returns-clause-dropping : goal.returns-clause-dropping
returns-clause-dropping c = dropping-takes

pub returns-clause-adding : goal.returns-clause-adding
returns-clause-adding c = adding-takes

pub returns-clause-exhausted : goal.returns-clause-exhausted
returns-clause-exhausted c = exhausted-takes
