use Rattle.wasm_reading_bodies.proofs.OneForm.{instructions_have_one_form}
use Rattle.wasm_reading_bodies.proofs.laws.instructions_have_one_form.Goals as goal

pub returns : goal.returns
returns c = instructions_have_one_form
