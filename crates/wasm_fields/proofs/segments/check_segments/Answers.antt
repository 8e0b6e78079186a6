use Rattle.std.proofs.Common.{◌∙◌, ◌<◌, length, sym, arith}
use Rattle.wasm_typing.specs.Fields.{segment_rule}
use Rattle.wasm_fields.proofs.Firsts.{fault_at, fault_behind, none_left}
use Rattle.wasm_fields.proofs.segments.check_segments.Goals as goal

pub returns-in-Some : goal.returns-in-Some
returns-in-Some c =
    c.loop-at.invariant ∙ fault_at (λ before x. segment_rule c.args.c.now x) c.args.segments.now c.loop-at.at _ c.index-segments-at.result c.loop-at-test.true c.index-segments-at.is (sym c.segment_rule.ensures ∙ c.in-Some.is)

pub loop-at-preserved : goal.loop-at-preserved
loop-at-preserved c =
    c.loop-at.invariant ∙ fault_behind (λ before x. segment_rule c.args.c.now x) c.args.segments.now c.loop-at.at _ c.index-segments-at.result c.loop-at-test.true c.index-segments-at.is (sym c.segment_rule.ensures ∙ c.in_default.is)

pub returns : goal.returns
returns c = c.loop-at.invariant ∙ none_left (λ before x. segment_rule c.args.c.now x) c.args.segments.now c.loop-at.at (λ (h : c.loop-at.at < length c.args.segments.now). omega arith)
