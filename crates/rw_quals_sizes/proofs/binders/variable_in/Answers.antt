-- The last binder of those that are left is a type variable, or it is not.
use Rattle.std.proofs.Common.{◌∙◌, ◌<◌, arith}
use Rattle.rw_quals_sizes.proofs.Within.{variable_here, variable_further, variable_past}
use Rattle.rw_quals_sizes.proofs.binders.variable_in.Goals as goal

pub returns-then-further-eq0 : goal.returns-then-further-eq0
returns-then-further-eq0 c = λ s. c.loop-at.invariant.1 s ∙ variable_here _ _ _ c.loop-at-test.true c.loop-at.invariant.0 _ _ _ c.in-Kind.is c.if-further-eq0.true s

pub loop-at-preserved-in-Kind : goal.loop-at-preserved-in-Kind
loop-at-preserved-in-Kind c =
    let more : 0 < c.loop-at.further = omega (arith, c.if-further-eq0.false) in
    (omega (arith, c.loop-at.invariant.0), λ s. c.loop-at.invariant.1 s ∙ variable_further _ _ _ c.loop-at-test.true c.loop-at.invariant.0 _ _ _ c.in-Kind.is more s)

pub loop-at-preserved : goal.loop-at-preserved
loop-at-preserved c =
    (omega (arith, c.loop-at.invariant.0), λ s. c.loop-at.invariant.1 s ∙ variable_past _ _ _ c.loop-at-test.true c.loop-at.invariant.0 _ _ c.in_default.is s)
