use Rattle.wasm_contents.proofs.CodeSteps.{code_done}
use Rattle.wasm_contents.proofs.content.push_codes.Goals as goal

pub returns-in_ok-append-in-Done : goal.returns-in_ok-append-in-Done
returns-in_ok-append-in-Done c = code_done c.args.module.now _ _ _ _ _ _ _ _ _ (rw c.in-Done.is at c.in_ok-code.ensures) c.in_ok-append-in-Done.ensures.ok c.codes.ensures
