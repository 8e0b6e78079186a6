use Rattle.std.proofs.Common.{[]}
use Rattle.wasm_decode.proofs.Decoding.{answer_failed}
use Rattle.wasm_decode.proofs.state.DecoderState.ending.Goals as goal

pub returns-in-Some-clause-err : goal.returns-in-Some-clause-err
returns-in-Some-clause-err c = answer_failed c.args.self.now c.in-Some.e c.in-Some.is []
