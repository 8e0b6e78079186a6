-- The top operand moves into the local.
use Rattle.std.proofs.Common.{◌∙◌, Some, refl, sym, get_or, arith}
use Rattle.std.proofs.lemmas.Option.{slice_get-get_or}
use Rattle.rich_types.specs.Scopes.{scope_of}
use Rattle.rich_rules.specs.Points.{Becomes}
use Rattle.rw_local_rows.proofs.Places.{sets_local}
use Rattle.rw_local_rows.proofs.locals.take_local_set.Goals as goal

pub returns-clause-row : goal.returns-clause-row
returns-clause-row c =
    (Some (Becomes c.args.n c.spend-value.result), sets_local (scope_of c.args.c.now.binders) c.args.slots.now c.args.locals.now c.args.n (get_or c.args.locals.now c.args.n c.index-locals-at.result) c.spend-value.result c.in_ok-take_top.field-0 c.args.s.now.operands c.take_top.new.s.operands (slice_get-get_or c.args.locals.now c.args.n c.index-locals-at.result (omega (arith, c.if-at-locals.false))) c.in_ok-take_top.ensures.operands c.spend-value.ensures (sym c.is_unr.ensures ∙ c.if-not-is_unr.false) (sym c.fits_slot.ensures ∙ c.if-not-fits_slot.false), refl)
