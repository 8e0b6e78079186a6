use Rattle.std.proofs.Common.{[]}
use Rattle.wasm_execution.specs.Environments.{environment_of}
use Rattle.wasm_execution.specs.Calls as machine
use Rattle.wasm_run_calls.specs.Parts.{giving}
use Rattle.wasm_run_calls.proofs.Leading.{retold}
use Rattle.wasm_run_calls.proofs.Giving.{return_ready}
use Rattle.wasm_run_calls.proofs.returns.return_now.Goals as goal

pub returns-clause-does : goal.returns-clause-does
returns-clause-does g c =
    let e = environment_of (g.F.Functions.source c.args.functions.now) in
    let s = c.args.state.now in
    let k = c.gives-gives.result in
    let r = return_ready e k s c.gives-gives.ensures c.requires.steps in
    retold (giving e k s) (machine.return_now e) [] [] s c.give.new.state c.give.result r.same c.give.ensures.does
