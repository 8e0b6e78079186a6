use Rattle.std.proofs.Common.{◌≡◌}
use Rattle.wasm_typing.specs.Fields.{global_rule}
use Rattle.wasm_typing.specs.Modules.{first_alone}
use Rattle.wasm_fields.proofs.Firsts.{left_behind}
use Rattle.wasm_fields.proofs.globals.check_globals.Given as goal

abbrev pub invariant-loop-at : goal.invariant-loop-at
invariant-loop-at l = first_alone (global_rule l.imported) l.globals ≡ left_behind (λ before x. global_rule l.imported x) l.globals l.at
