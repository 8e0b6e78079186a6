use Rattle.std.proofs.Common.{◌≡◌}
use Rattle.wasm_typing.specs.Fields.{segment_rule}
use Rattle.wasm_typing.specs.Modules.{first_alone}
use Rattle.wasm_fields.proofs.Firsts.{left_behind}
use Rattle.wasm_fields.proofs.segments.check_segments.Given as goal

abbrev pub invariant-loop-at : goal.invariant-loop-at
invariant-loop-at l = first_alone (segment_rule l.c) l.segments ≡ left_behind (λ before x. segment_rule l.c x) l.segments l.at
