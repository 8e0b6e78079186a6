use Rattle.std.proofs.Common.{◌≡◌}
use Rattle.wasm_typing.specs.Fields.{element_rule}
use Rattle.wasm_typing.specs.Modules.{first_alone}
use Rattle.wasm_fields.proofs.Firsts.{left_behind}
use Rattle.wasm_fields.proofs.segments.check_elements.Given as goal

abbrev pub invariant-loop-at : goal.invariant-loop-at
invariant-loop-at l = first_alone (element_rule l.c) l.elements ≡ left_behind (λ before x. element_rule l.c x) l.elements l.at
