use Rattle.wasm_machine_typing.proofs.Steps.{calls_are_typed, each_step_goes_on, never_stuck, stays_typed}
use Rattle.wasm_machine_typing.proofs.laws.typed_configurations_go_on.Goals as goal

pub returns-clause-begins : goal.returns-clause-begins
returns-clause-begins c = calls_are_typed

pub returns-clause-step : goal.returns-clause-step
returns-clause-step c = each_step_goes_on

pub returns-clause-stuck : goal.returns-clause-stuck
returns-clause-stuck c = never_stuck

pub returns-clause-stays : goal.returns-clause-stays
returns-clause-stays c = stays_typed
