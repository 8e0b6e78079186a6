use Rattle.std.proofs.Common.{◌∙◌, sym, ◌≤◌, ◌<◌, length, get_or, arith}
use Rattle.wasm_fields.proofs.Rules.{function_there, function_lacks, functions_end}
use Rattle.wasm_fields.proofs.segments.functions_rule.Goals as goal

pub returns-then-n-len : goal.returns-then-n-len
returns-then-n-len c =
    let past : length c.args.c.now.functions ≤ get_or c.args.funcs.now c.loop-n.n-index 0 = omega arith in
    sym (c.loop-n.invariant ∙ function_lacks c.args.c.now c.args.funcs.now c.loop-n.n-index 0 c.loop-n-test.true past)

pub loop-n-preserved : goal.loop-n-preserved
loop-n-preserved c =
    let below : get_or c.args.funcs.now c.loop-n.n-index 0 < length c.args.c.now.functions = omega arith in
    c.loop-n.invariant ∙ function_there c.args.c.now c.args.funcs.now c.loop-n.n-index 0 c.loop-n-test.true below

pub returns : goal.returns
returns c = sym (c.loop-n.invariant ∙ functions_end c.args.c.now c.args.funcs.now c.loop-n.n-index c.loop-n-test.false)
