use Rattle.std.proofs.Common.{◌∙◌, ◌<◌, length, sym, arith}
use Rattle.wasm_typing.specs.Fields.{element_rule}
use Rattle.wasm_fields.proofs.Firsts.{fault_at, fault_behind, none_left}
use Rattle.wasm_fields.proofs.segments.check_elements.Goals as goal

pub returns-in-Some : goal.returns-in-Some
returns-in-Some c =
    c.loop-at.invariant ∙ fault_at (λ before x. element_rule c.args.c.now x) c.args.elements.now c.loop-at.at _ c.index-elements-at.result c.loop-at-test.true c.index-elements-at.is (sym c.element_rule.ensures ∙ c.in-Some.is)

pub loop-at-preserved : goal.loop-at-preserved
loop-at-preserved c =
    c.loop-at.invariant ∙ fault_behind (λ before x. element_rule c.args.c.now x) c.args.elements.now c.loop-at.at _ c.index-elements-at.result c.loop-at-test.true c.index-elements-at.is (sym c.element_rule.ensures ∙ c.in_default.is)

pub returns : goal.returns
returns c = c.loop-at.invariant ∙ none_left (λ before x. element_rule c.args.c.now x) c.args.elements.now c.loop-at.at (λ (h : c.loop-at.at < length c.args.elements.now). omega arith)
