use Rattle.wasm_ast.specs.Operations as op
use Rattle.wasm_run_state.proofs.Acting.{went}
use Rattle.wasm_run_state.proofs.lists.repeat.Goals as goal

pub returns-clause-does : goal.returns-clause-does
returns-clause-does c e = went e (op.Loop c.args.ty c.args.body.now) c.args.rest.now c.args.state.now c.open_loop.new.frames c.in_ok-open_loop.ensures.does
