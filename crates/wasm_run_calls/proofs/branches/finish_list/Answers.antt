use Rattle.std.proofs.Common.{[]}
use Rattle.wasm_execution.specs.Environments.{environment_of}
use Rattle.wasm_frames.specs.Frames.{here_now}
use Rattle.wasm_run_calls.specs.Parts.{start_at}
use Rattle.wasm_run_calls.proofs.Branching.{ready}
use Rattle.wasm_run_calls.proofs.branches.finish_list.Goals as goal

pub leave_list-requires-clause-ready : goal.leave_list-requires-clause-ready
leave_list-requires-clause-ready g c =
    let s = c.args.state.now in
    ready (environment_of (g.F.Functions.source c.args.functions.now)) s.frames.levels.own s.frames.values.beneath (record (here_now s.frames) { rest = [] }) (start_at c.requires.steps.0 s) c.requires.steps.1
