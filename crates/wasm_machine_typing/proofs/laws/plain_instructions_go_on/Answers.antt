use Rattle.wasm_machine_typing.proofs.Plain.{plain_goes_on, stands_within}
use Rattle.wasm_machine_typing.proofs.laws.plain_instructions_go_on.Goals as goal

pub returns-clause-step : goal.returns-clause-step
returns-clause-step c = plain_goes_on

pub returns-clause-room : goal.returns-clause-room
returns-clause-room c = stands_within
