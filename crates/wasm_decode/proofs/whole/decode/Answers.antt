use Rattle.std.proofs.Common.{◌<◌, arith}
use Rattle.std.proofs.lemmas.List.Elements.{All-from_get_or}
use Rattle.wasm_decode.proofs.Decoding.{whole_fault}
use Rattle.wasm_decode.proofs.WholeInputs.{answer_is_reading, answer_spelled, answer_complete, fault_of_memory}
use Rattle.wasm_decode.proofs.whole.decode.Goals as goal

pub returns-in-Err-clause-fault : goal.returns-in-Err-clause-fault
returns-in-Err-clause-fault c = whole_fault c.new-decoder.result c.args.bytes.now c.in-Err.e c.new-decoder.ensures.starts c.in-Err.ensures.err

pub returns-in-Ok-clause-spelled : goal.returns-in-Ok-clause-spelled
returns-in-Ok-clause-spelled c =
    answer_spelled c.args.bytes.now _ c.finish.result (answer_is_reading c.new-decoder.result _ c.args.bytes.now c.new-decoder.ensures.starts c.in-Ok.ensures.ok) c.finish.ensures.ok
    (All-from_get_or (λ b. b < 256) c.args.bytes.now 0 (λ i h. omega (arith, c.type_inv.bytes i)))

pub returns-in-Ok-clause-complete : goal.returns-in-Ok-clause-complete
returns-in-Ok-clause-complete c =
    answer_complete c.args.bytes.now _ c.finish.result (answer_is_reading c.new-decoder.result _ c.args.bytes.now c.new-decoder.ensures.starts c.in-Ok.ensures.ok) c.finish.ensures.err

pub returns-in-Err-clause-complete : goal.returns-in-Err-clause-complete
returns-in-Err-clause-complete c = λ m s.
    fault_of_memory c.args.bytes.now m c.in-Err.e s (whole_fault c.new-decoder.result c.args.bytes.now c.in-Err.e c.new-decoder.ensures.starts c.in-Err.ensures.err)
