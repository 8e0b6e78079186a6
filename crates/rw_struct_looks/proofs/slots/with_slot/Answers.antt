use Rattle.std.proofs.Common.{rules, arith, ◌+◌, ◌-◌, ◌∙◌, ◌++◌, ◌∷◌, [], ap, length}
use Rattle.rw_struct_looks.proofs.Sets.{set_made}
use Rattle.rw_struct_looks.proofs.slots.with_slot.Goals as goal

pub returns : goal.returns
returns c = set_made c.args.slots.now c.args.i (length c.args.slots.now - (c.args.i + 1)) (record { ty = c.args.t.now; size = c.args.size }) c.push_slots.new.made c.push.new.self c.push_slots-2.new.made c.requires (omega arith) (search rules) (c.in_ok-push.ensures.ok ∙ ap (λ x. c.push_slots.new.made ++ record { ty = x; size = c.args.size } ∷ []) c.in_ok-copy.ensures) c.in_ok-push_slots-2.ensures
