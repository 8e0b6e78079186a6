use Rattle.wasm_ast.specs.Operations as op
use Rattle.wasm_run_state.proofs.Acting.{went}
use Rattle.wasm_run_state.proofs.lists.if_else.Goals as goal

pub returns-clause-does : goal.returns-clause-does
returns-clause-does c e = went e (op.IfElse c.args.ty c.args.first.now c.args.second.now) c.args.rest.now c.args.state.now c.open_either.new.frames c.in_ok-open_either.ensures.does
