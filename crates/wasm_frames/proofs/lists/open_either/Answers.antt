use Rattle.std.proofs.Common.{refl}
use Rattle.wasm_frames.proofs.Ifs.{on_ok, either_zero, either_other}
use Rattle.wasm_frames.proofs.lists.open_either.Goals as goal

pub returns-then-condition-eq0-clause-does : goal.returns-then-condition-eq0-clause-does
returns-then-condition-eq0-clause-does c =
    let p = c.pop-condition in
    on_ok c.open_arm.result c.open_arm.ensures.does
    (either_zero c.args.frames.now p.new.self p.result p.ensures.own p.ensures.beneath c.args.ty c.args.first.now c.args.second.now c.args.rest.now c.open_arm.new.frames c.if-condition-eq0.true)

pub returns-else-condition-eq0-clause-does : goal.returns-else-condition-eq0-clause-does
returns-else-condition-eq0-clause-does c =
    let p = c.pop-condition in
    on_ok c.open_arm-else-condition-eq0.result c.open_arm-else-condition-eq0.ensures.does
    (either_other c.args.frames.now p.new.self p.result p.ensures.own p.ensures.beneath c.args.ty c.args.first.now c.args.second.now c.args.rest.now c.open_arm-else-condition-eq0.new.frames p.result refl c.if-condition-eq0.false)
