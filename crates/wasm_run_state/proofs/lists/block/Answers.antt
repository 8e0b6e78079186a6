use Rattle.wasm_ast.specs.Operations as op
use Rattle.wasm_run_state.proofs.Acting.{went}
use Rattle.wasm_run_state.proofs.lists.block.Goals as goal

pub returns-clause-does : goal.returns-clause-does
returns-clause-does c e = went e (op.Block c.args.ty c.args.body.now) c.args.rest.now c.args.state.now c.open_block.new.frames c.in_ok-open_block.ensures.does
