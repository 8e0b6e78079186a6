use Rattle.wasm_typing_laws.proofs.HeightPoints.{height-is-met}
use Rattle.wasm_typing_laws.proofs.laws.height_is_the_greatest.Goals as goal

pub returns : goal.returns
returns c C body d = height-is-met C body d
