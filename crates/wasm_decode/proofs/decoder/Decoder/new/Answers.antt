use Rattle.wasm_decode.proofs.InProfile.{starts_in_profile}
use Rattle.wasm_decode.proofs.decoder.Decoder.new.Goals as goal

pub invariant_of-result : goal.invariant_of-result
invariant_of-result c = starts_in_profile c.new.result c.new.ensures.starts
