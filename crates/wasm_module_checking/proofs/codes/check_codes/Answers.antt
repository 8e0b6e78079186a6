use Rattle.std.proofs.Common.{◌≡◌, ◌∙◌, ◌<◌, ◌∷◌, [], ℕ, List, length, get_or, sym, ap, subst, length-append, arith}
use Rattle.std.proofs.lemmas.Result.{err_from_is_err_and}
use Rattle.wasm_typing.specs.Modules.{BodiesAreTypedBefore}
use Rattle.wasm_module_checking.specs.Heights.{HasHeight}
use Rattle.wasm_module_checking.proofs.Bodies.{bodies_none, bodies_more, heights_more, refused_there}
use Rattle.wasm_module_checking.proofs.codes.check_codes.Goals as goal

pub returns-in_err-height : goal.returns-in_err-height
returns-in_err-height c =
    let p = err_from_is_err_and c.from_residual.result c.from_residual.ensures.1 in
    rw (p.1, p.2) (record { bodies = tt; heights = tt; same = tt; refused = refused_there c.args.m.now c.loop-k.k c.in_err-height.field-0.0 c.requires.typed c.loop-k.invariant.bodies c.in_err-height.ensures.refused })

pub returns-in_err-push : goal.returns-in_err-push
returns-in_err-push c =
    let p = err_from_is_err_and c.from_residual-in_err-push.result c.from_residual-in_err-push.ensures.1 in
    rw (p.1, p.2) (record { bodies = tt; heights = tt; same = tt; refused = tt })

pub loop-k-init : goal.loop-k-init
loop-k-init c = record { context = c.requires.context; bodies = bodies_none c.args.m.now; count = ap length c.new-heights.ensures; each = λ j lt. absurd (omega arith) }

pub loop-k-preserved : goal.loop-k-preserved
loop-k-preserved c =
    let i = c.loop-k.invariant in
    let joined = ap length c.in_ok-push.ensures.ok in
    let more = length-append c.loop-k.heights (c.in_ok-height.height ∷ []) in
    record {
      context = c.in_ok-height.ensures.same;
      bodies = bodies_more c.args.m.now c.loop-k.k i.bodies c.in_ok-height.ensures.checked;
      count = omega (arith, joined, more, i.count);
      each = λ j lt. subst (λ (hs : List ℕ). HasHeight c.args.m.now j (get_or hs j 0)) (sym c.in_ok-push.ensures.ok) (heights_more c.args.m.now c.loop-k.k c.loop-k.heights c.in_ok-height.height i.count i.each c.in_ok-height.ensures.checked.height j lt);
    }

pub returns : goal.returns
returns c =
    let i = c.loop-k.invariant in
    let whole : c.loop-k.k ≡ length c.args.m.now.codes = omega (arith, ap length c.as_slice-codes.ensures.items) in
    record {
      bodies = subst (λ (n : ℕ). BodiesAreTypedBefore c.args.m.now n) whole i.bodies;
      heights = record { count = i.count ∙ whole; each = λ j lt. let low : j < c.loop-k.k = omega arith in i.each j low };
      same = i.context;
      refused = tt;
    }
