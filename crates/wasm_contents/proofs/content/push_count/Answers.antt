use Rattle.wasm_contents.proofs.CodeSteps.{count_done}
use Rattle.wasm_contents.proofs.content.push_count.Goals as goal

pub returns-else-count-functions : goal.returns-else-count-functions
returns-else-count-functions c = count_done c.args.module.now _ _ _ _ _ _ _ _ (rw c.in-Done.is at c.in_ok-number.ensures) c.if-count-functions.false (rw c.new.ensures at c.codes.ensures)
