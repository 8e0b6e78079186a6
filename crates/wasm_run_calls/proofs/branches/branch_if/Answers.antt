use Rattle.std.proofs.Common.{refl}
use Rattle.wasm_execution.specs.Environments.{environment_of}
use Rattle.wasm_execution.specs.Control as control
use Rattle.wasm_run_calls.proofs.Popping.{retaken, branch_taken}
use Rattle.wasm_run_calls.proofs.branches.branch_if.Goals as goal

pub returns-else-condition-eq0-clause-does : goal.returns-else-condition-eq0-clause-does
returns-else-condition-eq0-clause-does g c =
    let e = environment_of (g.F.Functions.source c.args.functions.now) in
    let s = c.args.state.now in
    let p = c.pop-condition in
    retaken s p.new.self p.result p.ensures.own p.ensures.beneath (control.branch_if e c.args.label) (control.branch_to e c.args.label) c.args.rest.now c.branch_on.result c.branch_on.new.state
    (branch_taken s p.new.self p.result p.ensures.own p.ensures.beneath e c.args.label c.args.rest.now p.result refl c.if-condition-eq0.false) (c.branch_on.ensures.does c.args.rest.now)
