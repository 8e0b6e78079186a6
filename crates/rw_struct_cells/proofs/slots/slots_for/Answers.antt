-- Each slot is made of the next operand and the next size.
use Rattle.std.proofs.Common.{◌∙◌, ◌<◌, ◌++◌, ◌∷◌, [], Some, None, ap, sym, subst, length, get_or, arith}
use Rattle.rw_types.specs.declared.types.Ty.{Ty}
use Rattle.rich_types.specs.Scopes.{scope_of}
use Rattle.rich_types.specs.Instances.{raise}
use Rattle.rich_typing.specs.declared.rules.Rule.TheVariants as rule
use Rattle.rich_rules.specs.Forms.{fits}
use Rattle.rich_rules.specs.Points.{Breaks, Broke}
use Rattle.rich_rules.specs.Raised.{one_location}
use Rattle.rw_row_answers.specs.Answers.{Breaking}
use Rattle.rw_struct_cells.proofs.SlotsMade.{none_made, next_here, number_here, none_left, one_slot, too_large, all_made}
use Rattle.rw_struct_cells.proofs.slots.slots_for.Goals as goal

pub loop-i-init : goal.loop-i-init
loop-i-init c = none_made (scope_of c.args.c.now.binders) c.args.fields.now c.args.sizes.now c.new-slots.result c.new-slots.ensures

pub loop-i-preserved : goal.loop-i-preserved
loop-i-preserved c =
    let o = c.index-fields-i.result in
    let s = get_or c.args.sizes.now c.loop-i.i 0 in
    let within : c.loop-i.i < length c.args.fields.now = omega arith in
    one_slot (scope_of c.args.c.now.binders) c.args.fields.now c.args.sizes.now c.loop-i.i c.loop-i.slots c.loop-i.invariant o s
    (next_here c.args.fields.now c.loop-i.i o within c.index-fields-i.is)
    (number_here c.args.sizes.now c.loop-i.i c.loop-i-test.true)
    c.push.new.self
    (ap (λ (t : Ty). fits (scope_of c.args.c.now.binders) s t) (sym c.ty-t.ensures) ∙ sym c.fits.ensures ∙ c.if-not-fits.false)
    (c.in_ok-push.ensures.ok ∙ ap (λ (t : Ty). c.loop-i.slots ++ record { ty = t; size = s } ∷ []) (c.in_ok-raise_one.ensures ∙ ap (raise one_location) c.ty-t.ensures))

pub returns : goal.returns
returns c =
    all_made (scope_of c.args.c.now.binders) c.args.fields.now c.args.sizes.now c.loop-i.i c.loop-i.slots c.loop-i.invariant
    (none_left c.args.fields.now c.loop-i.i (omega arith)) (none_left c.args.sizes.now c.loop-i.i c.loop-i-test.false)

pub returns-then-not-fits : goal.returns-then-not-fits
returns-then-not-fits c =
    let o = c.index-fields-i.result in
    let s = get_or c.args.sizes.now c.loop-i.i 0 in
    let within : c.loop-i.i < length c.args.fields.now = omega arith in
    too_large (scope_of c.args.c.now.binders) c.args.fields.now c.args.sizes.now c.loop-i.i c.loop-i.slots c.loop-i.invariant o s
    (next_here c.args.fields.now c.loop-i.i o within c.index-fields-i.is)
    (number_here c.args.sizes.now c.loop-i.i c.loop-i-test.true)
    c.broken.result
    (ap (λ (t : Ty). fits (scope_of c.args.c.now.binders) s t) (sym c.ty-t.ensures) ∙ sym c.fits.ensures ∙ c.if-not-fits.true)
    (subst (λ (t : Ty). Breaking c.broken.result (Breaks (Broke rule.SlotSize (Some t) None))) c.ty-t.ensures c.broken.ensures)
