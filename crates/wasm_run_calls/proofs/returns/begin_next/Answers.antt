use Rattle.std.proofs.Common.{refl}
use Rattle.wasm_frames.specs.declared.calls.Called.{Called}
use Rattle.wasm_run_calls.proofs.Giving.{begun, begun_keeps}
use Rattle.wasm_run_calls.proofs.returns.begin_next.Goals as goal

pub returns-clause-does : goal.returns-clause-does
returns-clause-does g c = λ vs.
    let called = c.in-Module.called in
    let entry : Called = record { function = called.function; body = called.body; params = 0; declared = called.declared; room = called.room } in
    begun (g.F.Functions.source c.args.functions.now) c.args.next c.args.state.now called entry c.enter_last_call.new.frames c.in-Module.ensures refl c.in-Module.ensures.has refl c.in_ok-enter_last_call-in-Module.ensures.enters vs c.requires.next

pub returns-clause-keeps : goal.returns-clause-keeps
returns-clause-keeps g c =
    let called = c.in-Module.called in
    let entry : Called = record { function = called.function; body = called.body; params = 0; declared = called.declared; room = called.room } in
    begun_keeps (g.F.Functions.source c.args.functions.now) c.args.next c.args.state.now called entry c.enter_last_call.new.frames c.in-Module.ensures refl c.in-Module.ensures.has refl c.in_ok-enter_last_call-in-Module.ensures.enters
