use Rattle.wasm_machine_typing.proofs.Rows.{first_is_typed}
use Rattle.wasm_machine_typing.proofs.laws.a_first_configuration_is_typed.Goals as goal

pub returns : goal.returns
returns c = first_is_typed
