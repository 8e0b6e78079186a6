use Rattle.std.proofs.Common.{◌∙◌, ◌<◌, length, sym, arith}
use Rattle.wasm_typing.specs.Fields.{global_rule}
use Rattle.wasm_fields.proofs.Firsts.{fault_at, fault_behind, none_left}
use Rattle.wasm_fields.proofs.globals.check_globals.Goals as goal

pub returns-in-Some : goal.returns-in-Some
returns-in-Some c =
    c.loop-at.invariant ∙ fault_at (λ before x. global_rule c.args.imported.now x) c.args.globals.now c.loop-at.at _ c.index-globals-at.result c.loop-at-test.true c.index-globals-at.is (sym c.global_rule.ensures ∙ c.in-Some.is)

pub loop-at-preserved : goal.loop-at-preserved
loop-at-preserved c =
    c.loop-at.invariant ∙ fault_behind (λ before x. global_rule c.args.imported.now x) c.args.globals.now c.loop-at.at _ c.index-globals-at.result c.loop-at-test.true c.index-globals-at.is (sym c.global_rule.ensures ∙ c.in_default.is)

pub returns : goal.returns
returns c = c.loop-at.invariant ∙ none_left (λ before x. global_rule c.args.imported.now x) c.args.globals.now c.loop-at.at (λ (h : c.loop-at.at < length c.args.globals.now). omega arith)
