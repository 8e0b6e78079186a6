use Rattle.wasm_contents.proofs.CodeSteps.{next_code}
use Rattle.wasm_contents.proofs.content.codes.Goals as goal

pub returns : goal.returns
returns c = next_code c.args.module.now c.args.before c.new.result c.args.count c.new.ensures c.if-count-eq0.false
