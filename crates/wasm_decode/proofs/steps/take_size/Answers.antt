use Rattle.std.proofs.Common.{sym}
use Rattle.wasm_decode.proofs.Advancing.{entered}
use Rattle.wasm_decode.proofs.CustomSteps.{size_more, size_done, size_stops}
use Rattle.wasm_decode.specs.Steps.{sized_left}
use Rattle.wasm_decode.proofs.steps.take_size.Goals as goal

pub returns-in-Done-clause-advances : goal.returns-in-Done-clause-advances
returns-in-Done-clause-advances c =
    entered (λ size. sized_left c.args.id c.args.last.now c.args.built.now size) c.args.built.now _ c.enter.result (rw c.in-Done.is at c.in_ok-number.ensures)
    (rw c.id_behind.ensures (c.enter.ensures.enters c.args.last.now c.args.built.now (sym c.len.ensures.count)))

pub returns-in-Done-clause-sized : goal.returns-in-Done-clause-sized
returns-in-Done-clause-sized c = λ zero. size_done c.args.byte c.args.at _ c.args.number c.enter.result (rw c.in-Done.is at c.in_ok-number.ensures) (c.enter.ensures.custom zero)

pub returns-in-More-clause-sized : goal.returns-in-More-clause-sized
returns-in-More-clause-sized c = size_more c.args.id c.args.byte c.args.at c.args.number _ (rw c.in-More.is at c.in_ok-number.ensures)

pub returns-in_err-number-clause-sized : goal.returns-in_err-number-clause-sized
returns-in_err-number-clause-sized c = λ zero. size_stops c.args.byte c.args.at c.args.number _ c.from_residual.result c.in_err-number.ensures
