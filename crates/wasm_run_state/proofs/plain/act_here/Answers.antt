use Rattle.std.proofs.Common.{arith}
use Rattle.std.proofs.lemmas.List.{with_items_is}
use Rattle.std.specs.Vec.{with_items}
use Rattle.wasm_ast.specs.OperationViews.{operation_seen}
use Rattle.wasm_run_state.proofs.Acting.{plain_went, plain_trapped}
use Rattle.wasm_run_state.proofs.plain.act_here.Goals as goal

pub returns-in-Ok-clause-does : goal.returns-in-Ok-clause-does
returns-in-Ok-clause-does c e =
    let p = c.act_plain in
    let m = c.as_mut_slice in
    plain_went e (operation_seen c.args.operation) c.args.state.now p.new.values p.new.locals p.new.memory p.ensures.beneath p.ensures.locals_beneath c.args.rest (with_items c.args.state.now.globals p.new.globals) m.result.now p.new.globals m.ensures.value (with_items_is c.args.state.now.globals p.new.globals (omega arith)) c.in-Ok.ensures.does

pub returns-in-Err-clause-does : goal.returns-in-Err-clause-does
returns-in-Err-clause-does c e =
    let p = c.act_plain in
    let m = c.as_mut_slice in
    plain_trapped e (operation_seen c.args.operation) c.args.state.now p.new.values p.new.locals p.new.memory p.ensures.beneath p.ensures.locals_beneath c.args.rest (with_items c.args.state.now.globals p.new.globals) m.result.now p.new.globals m.ensures.value (with_items_is c.args.state.now.globals p.new.globals (omega arith)) c.in-Err.trap c.in-Err.ensures.does c.in-Err.ensures.unchanged
