use Rattle.std.proofs.Common.{◌∙◌, sym}
use Rattle.wasm_plain_checking.proofs.Labels.{agree-more, all_of-none}
use Rattle.wasm_plain_checking.proofs.instructions.labels_agree.Goals as goal

pub loop-n-preserved : goal.loop-n-preserved
loop-n-preserved c = agree-more _ c.args.indices.now c.loop-n.n-index c.args.t c.in-Some.u c.loop-n.same c.agree-same.result (c.loop-n-test.true) c.loop-n.invariant (sym c.get.ensures ∙ c.in-Some.is) c.agree-same.ensures

pub returns-in-None-clause-broken : goal.returns-in-None-clause-broken
returns-in-None-clause-broken c = λ r e. (all_of-none _ c.args.indices.now c.loop-n.n-index (c.loop-n-test.true) (sym c.get.ensures ∙ c.in-None.is), cc)
