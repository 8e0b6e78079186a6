use Rattle.std.proofs.Common.{[], arith, rules}
use Rattle.wasm_execution.specs.Environments.{environment_of}
use Rattle.wasm_execution.specs.Calls as machine
use Rattle.wasm_execution.specs.Control as control
use Rattle.wasm_frames.specs.Frames.{here_now}
use Rattle.wasm_run_calls.specs.Parts.{start_at}
use Rattle.wasm_run_calls.proofs.Leading.{retold}
use Rattle.wasm_run_calls.proofs.Branching.{can, branch_returns, return_leads}
use Rattle.wasm_run_calls.proofs.branches.branch_to.Goals as goal

pub branch-state-requires-clause-enough : goal.branch-state-requires-clause-enough
branch-state-requires-clause-enough g c =
    let s = c.args.state.now in
    let h = c.requires.steps in
    can (environment_of (g.F.Functions.source c.args.functions.now)) c.args.label s.frames.levels.own s.frames.values.beneath (record (here_now s.frames) { rest = h.0 }) (start_at h.1.0 s) h.1.1

pub return_now-requires : goal.return_now-requires
return_now-requires g c =
    let h = c.requires.steps in
    let leads = return_leads (environment_of (g.F.Functions.source c.args.functions.now)) c.args.label c.args.state.now (omega (arith, c.len.ensures)) h.0 h.1 in
    search (rules, leads)

pub returns-clause-does : goal.returns-clause-does
returns-clause-does g c = λ rest.
    let e = environment_of (g.F.Functions.source c.args.functions.now) in
    let s = c.args.state.now in
    let h = c.requires.steps in
    retold (machine.return_now e) (control.branch_to e c.args.label) [] rest s c.return_now.new.state c.return_now.result (branch_returns e c.args.label s (omega (arith, c.len.ensures)) h.0 h.1 rest) c.return_now.ensures.does
