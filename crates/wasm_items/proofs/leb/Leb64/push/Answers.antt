use Rattle.std.proofs.Common.{◌^◌, ap, sym, arith}
use Rattle.wasm_items.specs.LebStates.{rest_of_leb}
use Rattle.wasm_items.proofs.Taking.{takes_of}
use Rattle.wasm_items.proofs.LebSteps.{end_below, last_below, same_bound, more_below, takes_more}
use Rattle.wasm_items.proofs.leb.Leb64.push.Goals as goal

pub overflow_mul-result : goal.overflow_mul-result
overflow_mul-result c =
    let s = c.self.inside in
    omega (arith, c.self.invariant.1, last_below s.sum s.scale (2 ^ s.bits) c.in-Some.n c.self.invariant.0 (end_below s.is_signed _ _ _ c.if-byte-lt128.true c.in-Some.ensures))

pub returns-in-Some-clause-below : goal.returns-in-Some-clause-below
returns-in-Some-clause-below c =
    let s = c.self.inside in
    rw (← c.self.view_is) (last_below s.sum s.scale (2 ^ s.bits) c.in-Some.n c.self.invariant.0 (end_below s.is_signed _ _ _ c.if-byte-lt128.true c.in-Some.ensures))

pub overflow_mul-result-2 : goal.overflow_mul-result-2
overflow_mul-result-2 c =
    let s = c.self.inside in
    omega (arith, more_below s.sum s.scale s.bits c.args.byte c.self.invariant.0 c.self.invariant.1 c.if-self-le7.false (omega arith))

pub overflow_add-result-2 : goal.overflow_add-result-2
overflow_add-result-2 c =
    let s = c.self.inside in
    omega (arith, more_below s.sum s.scale s.bits c.args.byte c.self.invariant.0 c.self.invariant.1 c.if-self-le7.false (omega arith))

pub overflow_mul-result-3 : goal.overflow_mul-result-3
overflow_mul-result-3 c =
    let s = c.self.inside in
    omega (arith, more_below s.sum s.scale s.bits c.args.byte c.self.invariant.0 c.self.invariant.1 c.if-self-le7.false (omega arith))

pub invariant_of-result : goal.invariant_of-result
invariant_of-result c =
    let s = c.self.inside in
    ((more_below s.sum s.scale s.bits c.args.byte c.self.invariant.0 c.self.invariant.1 c.if-self-le7.false (omega arith)).0, omega (arith, same_bound s.scale s.bits c.if-self-le7.false), omega arith, omega arith)

pub returns-clause-pushes : goal.returns-clause-pushes
returns-clause-pushes c =
    let s = c.self.inside in
    takes_of (ap rest_of_leb (sym c.self.view_is)) (takes_more (record { sum = s.sum; scale = s.scale; bits = s.bits; is_signed = s.is_signed }) c.args.byte c.args.at c.if-self-le7.false c.if-byte-lt128.false)

pub returns-clause-below : goal.returns-clause-below
returns-clause-below c = rw (← c.self.view_is) (omega (arith, same_bound c.self.inside.scale c.self.inside.bits c.if-self-le7.false))
