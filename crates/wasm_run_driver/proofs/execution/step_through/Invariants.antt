use Rattle.std.proofs.Common.{◌≤◌}
use Rattle.wasm_run_driver.proofs.execution.step_through.Given as goal

abbrev pub invariant-loop : goal.invariant-loop
invariant-loop l = l.machine.steps ≤ l.counter
