use Rattle.std.proofs.Common.{sym, subst}
use Rattle.wasm_ast.specs.declared.operation.OperationRef.{OperationRef}
use Rattle.wasm_ast.specs.OperationViews.{operation_seen}
use Rattle.wasm_run_state.specs.States.{ActsTo}
use Rattle.wasm_run_dispatch.proofs.dispatch.act_in_call.Goals as goal

pub returns-in-Unreachable-clause-does : goal.returns-in-Unreachable-clause-does
returns-in-Unreachable-clause-does c = λ e q r.
    let s = c.args.state.now in
    subst (λ (o : OperationRef). ActsTo e (operation_seen o) c.args.rest.now s c.stop.result s) (sym c.in-Unreachable.is) (c.stop.ensures e c.args.rest.now q)
