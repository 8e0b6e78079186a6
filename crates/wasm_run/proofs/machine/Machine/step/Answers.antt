use Rattle.std.proofs.Common.{subst}
use Rattle.wasm_run.specs.Progress.{MayAllocate, Progress}
use Rattle.wasm_run.proofs.Turning.{kept_empty, may_allocate, on_err}
use Rattle.wasm_run.proofs.machine.Machine.step.Goals as goal

pub returns-in_err-turn-clause-spare : goal.returns-in_err-turn-clause-spare
returns-in_err-turn-clause-spare c =
    on_err c.from_residual.result (subst (λ (p : Progress). MayAllocate p.config) c.self.view_is (may_allocate c.self.inside.state c.in_err-turn.ensures.spare))

pub invariant_of-self-in-Ended : goal.invariant_of-self-in-Ended
invariant_of-self-in-Ended c =
    let a = c.advance in
    let i = c.self.inside in (
      a.ensures.running,
      c.self.invariant.1,
      kept_empty i.functions.environment i.state a.new.state a.result c.self.invariant.2 a.ensures.does a.ensures.unchanged,
    )

pub invariant_of-self-in_default-turn : goal.invariant_of-self-in_default-turn
invariant_of-self-in_default-turn c =
    let a = c.advance in
    let i = c.self.inside in (
      a.ensures.running,
      c.self.invariant.1,
      kept_empty i.functions.environment i.state a.new.state a.result c.self.invariant.2 a.ensures.does a.ensures.unchanged,
    )
