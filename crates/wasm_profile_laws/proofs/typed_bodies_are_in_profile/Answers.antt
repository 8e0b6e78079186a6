use Rattle.wasm_profile_laws.proofs.Fitting.{typed_bodies_fit}
use Rattle.wasm_profile_laws.proofs.typed_bodies_are_in_profile.Goals as goal

pub returns : goal.returns
returns c = typed_bodies_fit
