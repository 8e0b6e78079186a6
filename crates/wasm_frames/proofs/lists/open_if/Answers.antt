use Rattle.std.proofs.Common.{refl}
use Rattle.wasm_frames.proofs.Ifs.{on_ok, if_other}
use Rattle.wasm_frames.proofs.lists.open_if.Goals as goal

pub returns-else-condition-eq0-clause-does : goal.returns-else-condition-eq0-clause-does
returns-else-condition-eq0-clause-does c =
    let p = c.pop-condition in
    on_ok c.open_arm.result c.open_arm.ensures.does
    (if_other c.args.frames.now p.new.self p.result p.ensures.own p.ensures.beneath c.args.ty c.args.arm.now c.args.rest.now c.open_arm.new.frames p.result refl c.if-condition-eq0.false)
