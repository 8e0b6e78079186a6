use Rattle.std.proofs.Common.{◌≡◌, drop}
use Rattle.wasm_typing.specs.Fields.{functions_rule}
use Rattle.wasm_fields.proofs.segments.functions_rule.Given as goal

abbrev pub invariant-loop-n : goal.invariant-loop-n
invariant-loop-n l = functions_rule l.c l.funcs ≡ functions_rule l.c (drop l.n-index l.funcs)
