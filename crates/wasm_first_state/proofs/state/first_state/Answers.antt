use Rattle.std.proofs.Common.{refl}
use Rattle.wasm_execution.specs.Configurations.{Store}
use Rattle.wasm_run_state.specs.declared.state.State.{State}
use Rattle.wasm_run_state.specs.States.{bottom_of}
use Rattle.wasm_first_state.proofs.Beginning.{begins_so, runs_so}
use Rattle.wasm_first_state.proofs.state.first_state.Goals as goal

pub returns-clause-begins : goal.returns-clause-begins
returns-clause-begins g c =
    let b = c.requires.begins in
    let store : Store = record { memory = c.args.memory; table = c.args.table.items; globals = c.args.globals.items } in
    let state : State = record { frames = c.in_ok-frames-in-Module.frames; next_call = c.args.next_call; memory = c.args.memory; table = c.args.table; globals = c.args.globals } in
    begins_so (g.F.Functions.source c.args.functions.now) c.args.first b.0 (bottom_of c.args.next_call) store b.1 c.in-Module.called c.in-Module.ensures state c.in_ok-frames-in-Module.ensures refl refl

pub returns-clause-running : goal.returns-clause-running
returns-clause-running g c =
    let b = c.requires.begins in
    let m = g.F.Functions.source c.args.functions.now in
    let store : Store = record { memory = c.args.memory; table = c.args.table.items; globals = c.args.globals.items } in
    let state : State = record { frames = c.in_ok-frames-in-Module.frames; next_call = c.args.next_call; memory = c.args.memory; table = c.args.table; globals = c.args.globals } in
    runs_so m c.args.first b.0 (bottom_of c.args.next_call) store b.1 c.in-Module.called c.in-Module.ensures state c.in_ok-frames-in-Module.ensures c.requires.valid c.requires.profile
    (begins_so m c.args.first b.0 (bottom_of c.args.next_call) store b.1 c.in-Module.called c.in-Module.ensures state c.in_ok-frames-in-Module.ensures refl refl)
