use Rattle.std.proofs.Common.{length}
use Rattle.std.specs.Prelude.{Some, None, Ok}
use Rattle.wasm_typing.specs.Contexts.{context_of}
use Rattle.wasm_execution.specs.Environments.{environment_of, function_at}
use Rattle.wasm_execution.specs.Calls as machine
use Rattle.wasm_machine_typing.specs.Configurations.{of_code}
use Rattle.wasm_run_calls.specs.Parts.{prints_top}
use Rattle.wasm_run_calls.proofs.Leading.{retold}
use Rattle.wasm_run_calls.proofs.Calling.{call_found, arguments_there, as_before_keeps, called_on, called_keeps, print_is}
use Rattle.wasm_run_calls.proofs.calls.call_by_number.Goals as goal

pub enter_call-requires-clause-arguments : goal.enter_call-requires-clause-arguments
enter_call-requires-clause-arguments g c =
    let e = environment_of (g.F.Functions.source c.args.functions.now) in
    let s = c.args.state.now in
    let f = call_found e c.args.n c.args.rest.now s c.requires.steps in
    let is = c.in-Module.ensures in
    arguments_there f.0 (of_code is.ty (Some is.code)) (function_at e c.args.n) 0 (length s.frames.values.own) c.in-Module.called.params f.1 is.there is.params f.2

pub returns-in_err-enter_call-in-Module-clause-keeps : goal.returns-in_err-enter_call-in-Module-clause-keeps
returns-in_err-enter_call-in-Module-clause-keeps g c =
    let m = g.F.Functions.source c.args.functions.now in
    as_before_keeps (context_of m) (environment_of m) c.args.state.now.frames c.enter_call.new.frames c.in_err-enter_call-in-Module.ensures.unchanged

pub print-requires : goal.print-requires
print-requires g c =
    let e = environment_of (g.F.Functions.source c.args.functions.now) in
    let s = c.args.state.now in
    let f = call_found e c.args.n c.args.rest.now s c.requires.steps in
    let is = c.in-Host.ensures in
    arguments_there f.0 (of_code is.0 None) (function_at e c.args.n) 0 (length s.frames.values.own) c.in-Host.params f.1 is.1 is.2 f.2

pub returns-in_ok-enter_call-in-Module-clause-does : goal.returns-in_ok-enter_call-in-Module-clause-does
returns-in_ok-enter_call-in-Module-clause-does g c =
    let m = g.F.Functions.source c.args.functions.now in
    let e = environment_of m in
    let s = c.args.state.now in
    let f = call_found e c.args.n c.args.rest.now s c.requires.steps in
    let is = c.in-Module.ensures in
    called_on m c.args.n s c.in-Module.called c.args.rest.now c.enter_call.new.frames is c.in_ok-enter_call-in-Module.ensures.enters
    (arguments_there f.0 (of_code is.ty (Some is.code)) (function_at e c.args.n) 0 (length s.frames.values.own) c.in-Module.called.params f.1 is.there is.params f.2)

pub returns-in_ok-enter_call-in-Module-clause-keeps : goal.returns-in_ok-enter_call-in-Module-clause-keeps
returns-in_ok-enter_call-in-Module-clause-keeps g c =
    called_keeps (g.F.Functions.source c.args.functions.now) c.args.n c.args.state.now c.in-Module.called c.args.rest.now c.enter_call.new.frames c.in-Module.ensures c.in_ok-enter_call-in-Module.ensures.enters

pub returns-in-Host-clause-does : goal.returns-in-Host-clause-does
returns-in-Host-clause-does g c =
    let e = environment_of (g.F.Functions.source c.args.functions.now) in
    let s = c.args.state.now in
    let f = call_found e c.args.n c.args.rest.now s c.requires.steps in
    let is = c.in-Host.ensures in
    let le = arguments_there f.0 (of_code is.0 None) (function_at e c.args.n) 0 (length s.frames.values.own) c.in-Host.params f.1 is.1 is.2 f.2 in
    retold {E = Unit {0}} (prints_top c.in-Host.params) (machine.call_direct e c.args.n) c.args.rest.now c.args.rest.now s c.print.new.state (Ok c.print.result)
    (print_is e c.args.n is.0 c.in-Host.params c.args.rest.now s is.1 is.2 le) c.print.ensures.does
