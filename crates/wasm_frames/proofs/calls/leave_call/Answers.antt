use Rattle.wasm_call_steps.specs.Callers.{run}
use Rattle.wasm_frames.proofs.Calling.{room_left}
use Rattle.wasm_frames.proofs.calls.leave_call.Goals as goal

pub returns-in-Some : goal.returns-in-Some
returns-in-Some c =
    let r = c.in-Some.ensures in
    record {
      caller = r.caller;
      callers = r.callers;
      here = r.here;
      calls = r.calls;
      room = room_left c.args.gives c.in-Some.caller c.args.frames.now (run c.leave.new.values c.leave.new.locals c.leave.new.levels c.leave.new.callers) r;
    }
