use Rattle.std.proofs.Common.{sym}
use Rattle.std.proofs.lemmas.List.{append-nil}
use Rattle.wasm_contexts.proofs.Pushes.{run_more}
use Rattle.wasm_contexts.proofs.locals.push_run.Goals as goal

pub loop-init : goal.loop-init
loop-init c = sym (append-nil c.args.locals.now)

pub loop-preserved : goal.loop-preserved
loop-preserved c = run_more c.args.locals.now c.loop.locals c.push.new.self c.loop.counter c.args.run.ty c.loop.invariant c.in_ok-push.ensures.ok
