use Rattle.wasm_frames.proofs.Calling.{last_entered}
use Rattle.wasm_frames.proofs.calls.enter_last_call.Goals as goal

pub returns-clause-enters : goal.returns-clause-enters
returns-clause-enters c =
    last_entered c.args.called c.args.frames.now.code.now c.args.frames.now c.enter_call.new.frames c.requires.last c.requires.none c.in_ok-enter_call.ensures.enters c.requires.calls c.pop-caller.result c.pop-caller.new.self c.pop-caller.ensures
