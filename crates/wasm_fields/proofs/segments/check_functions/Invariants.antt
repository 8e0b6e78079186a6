use Rattle.std.proofs.Common.{◌≡◌}
use Rattle.wasm_typing.specs.Fields.{function_rule}
use Rattle.wasm_typing.specs.Modules.{first_alone}
use Rattle.wasm_fields.proofs.Firsts.{left_behind}
use Rattle.wasm_fields.proofs.segments.check_functions.Given as goal

abbrev pub invariant-loop-at : goal.invariant-loop-at
invariant-loop-at l = first_alone (function_rule l.c) l.funcs ≡ left_behind (λ before x. function_rule l.c x) l.funcs l.at
