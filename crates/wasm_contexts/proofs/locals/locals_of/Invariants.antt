use Rattle.std.proofs.Common.{◌≡◌, ◌++◌, take}
use Rattle.wasm_typing.specs.Contexts.{declared_locals}
use Rattle.wasm_contexts.proofs.locals.locals_of.Given as goal

abbrev pub invariant-loop-run : goal.invariant-loop-run
invariant-loop-run l = l.locals ≡ l.initial.locals ++ declared_locals (take l.run-index l.runs)
