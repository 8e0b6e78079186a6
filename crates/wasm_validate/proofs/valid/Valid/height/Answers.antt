use Rattle.wasm_validate.proofs.Refused.{height_told}
use Rattle.wasm_validate.proofs.valid.Valid.height.Goals as goal

pub returns : goal.returns
returns c = height_told c.self.inside.decoded c.args.self.now c.self.inside.heights c.as_slice.result.now c.args.code c.self.view_is c.as_slice.ensures.items c.self.invariant.1 c.requires
