use Rattle.std.proofs.Common.{◌∙◌, refl, ap, ◌++◌, List}
use Rattle.std.specs.Prelude.{replicate}
use Rattle.wasm_ast.specs.declared.modules.LocalRun.{LocalRun}
use Rattle.wasm_ast.specs.declared.types.ValTy.{ValTy}
use Rattle.wasm_typing.specs.Contexts.{declared_locals}
use Rattle.wasm_contexts.proofs.Pushes.{none_put, one_put, all_put}
use Rattle.wasm_contexts.proofs.locals.locals_of.Goals as goal

pub loop-run-init : goal.loop-run-init
loop-run-init c = none_put (λ (r : LocalRun). replicate r.count r.ty) c.in_ok-locals.locals c.args.runs.now

pub loop-run-preserved : goal.loop-run-preserved
loop-run-preserved c = one_put (λ (r : LocalRun). replicate r.count r.ty) c.in_ok-locals.locals c.loop-run.locals c.push_run.new.locals c.args.runs.now c.loop-run.run-index _ _ c.loop-run-test.true refl c.loop-run.invariant c.in_ok-push_run.ensures

pub returns : goal.returns
returns c = all_put (λ (r : LocalRun). replicate r.count r.ty) c.in_ok-locals.locals c.loop-run.locals c.args.runs.now c.loop-run.run-index c.loop-run-test.false c.loop-run.invariant ∙ ap (λ (ys : List ValTy). ys ++ declared_locals c.args.runs.now) c.in_ok-locals.ensures.ok
