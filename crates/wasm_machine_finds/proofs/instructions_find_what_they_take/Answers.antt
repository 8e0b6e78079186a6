use Rattle.wasm_machine_finds.proofs.Finding.{typed_finds}
use Rattle.wasm_machine_finds.proofs.instructions_find_what_they_take.Goals as goal

pub returns : goal.returns
returns c = typed_finds
