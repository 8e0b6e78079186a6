-- The last argument of those that are left is a type, or it is not.
use Rattle.std.proofs.Common.{◌∙◌, ◌<◌, sym, arith}
use Rattle.rw_substitution.proofs.Among.{type_here, type_further, type_past}
use Rattle.rw_substitution.proofs.arguments.type_among.Goals as goal

pub returns-then-further-eq0 : goal.returns-then-further-eq0
returns-then-further-eq0 c =
    type_here _ _ _ _ c.loop-at-test.true c.loop-at.invariant.0 _ _ c.loop-at.invariant.1 (sym c.index-args-at.is ∙ c.in-Given.is) c.if-further-eq0.true

pub loop-at-preserved-in-Given : goal.loop-at-preserved-in-Given
loop-at-preserved-in-Given c =
    let more : 0 < c.loop-at.further = omega (arith, c.if-further-eq0.false) in
    (omega (arith, c.loop-at.invariant.0), type_further _ _ _ _ c.loop-at-test.true c.loop-at.invariant.0 _ _ c.loop-at.invariant.1 (sym c.index-args-at.is ∙ c.in-Given.is) more)

pub loop-at-preserved : goal.loop-at-preserved
loop-at-preserved c =
    (omega (arith, c.loop-at.invariant.0), type_past _ _ _ _ c.loop-at-test.true c.loop-at.invariant.0 _ _ c.loop-at.invariant.1 (sym c.index-args-at.is ∙ c.in_default.is))
