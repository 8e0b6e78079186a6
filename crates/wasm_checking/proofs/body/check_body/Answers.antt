use Rattle.wasm_checking.proofs.Bodies.{body_valid, body_invalid}
use Rattle.wasm_checking.proofs.body.check_body.Goals as goal

pub returns-in-Ok-clause-valid : goal.returns-in-Ok-clause-valid
returns-in-Ok-clause-valid c = body_valid 0 c.new-labels.ensures c.in-Ok.ensures.ends

pub returns-in-Err-Broken-clause-invalid : goal.returns-in-Err-Broken-clause-invalid
returns-in-Err-Broken-clause-invalid c = λ at rule e. body_invalid c.args.c.now c.args.body.now _ c.check_arm.new.at at c.in-Err-Broken.rule rule c.new-labels.ensures (cc) (cc) (c.check_arm.ensures.broken c.in-Err-Broken.rule (cc))
