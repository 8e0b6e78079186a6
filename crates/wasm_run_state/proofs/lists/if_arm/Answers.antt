use Rattle.wasm_ast.specs.Operations as op
use Rattle.wasm_run_state.proofs.Acting.{went}
use Rattle.wasm_run_state.proofs.lists.if_arm.Goals as goal

pub returns-clause-does : goal.returns-clause-does
returns-clause-does c e = went e (op.If c.args.ty c.args.arm.now) c.args.rest.now c.args.state.now c.open_if.new.frames c.in_ok-open_if.ensures.does
