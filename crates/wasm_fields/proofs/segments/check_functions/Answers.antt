use Rattle.std.proofs.Common.{◌∙◌, refl, ◌≤◌, ◌<◌, length, get_or, arith}
use Rattle.wasm_typing.specs.declared.rule.WRule.TheVariants.{TypeIndex}
use Rattle.wasm_typing.specs.Fields.{function_rule}
use Rattle.wasm_fields.proofs.Firsts.{fault_at, fault_behind, none_left}
use Rattle.wasm_fields.proofs.Rules.{keeps_below, breaks_from}
use Rattle.wasm_fields.proofs.segments.check_functions.Goals as goal

pub returns-then-n-len : goal.returns-then-n-len
returns-then-n-len c =
    let past : length c.args.c.now.types ≤ get_or c.args.funcs.now c.loop-at.at 0 = omega arith in
    c.loop-at.invariant ∙ fault_at (λ before x. function_rule c.args.c.now x) c.args.funcs.now c.loop-at.at 0 _ c.loop-at-test.true refl (breaks_from _ _ TypeIndex past)

pub loop-at-preserved : goal.loop-at-preserved
loop-at-preserved c =
    let below : get_or c.args.funcs.now c.loop-at.at 0 < length c.args.c.now.types = omega arith in
    c.loop-at.invariant ∙ fault_behind (λ before x. function_rule c.args.c.now x) c.args.funcs.now c.loop-at.at 0 _ c.loop-at-test.true refl (keeps_below _ _ TypeIndex below)

pub returns : goal.returns
returns c = c.loop-at.invariant ∙ none_left (λ before x. function_rule c.args.c.now x) c.args.funcs.now c.loop-at.at (λ (h : c.loop-at.at < length c.args.funcs.now). omega arith)
