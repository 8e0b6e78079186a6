use Rattle.std.proofs.Common.{◌≡◌, ◌++◌}
use Rattle.std.specs.Prelude.{replicate}
use Rattle.wasm_contexts.proofs.locals.push_run.Given as goal

abbrev pub invariant-loop : goal.invariant-loop
invariant-loop l = l.locals ≡ l.initial.locals ++ replicate l.counter l.run.ty
