-- The local moves onto the stack, and a unit stands in its place.
use Rattle.std.proofs.Common.{◌∙◌, Some, ap, sym, get_or, arith}
use Rattle.std.specs.Prelude.{slice_set}
use Rattle.rw_types.specs.declared.types.Ty.{Ty}
use Rattle.std.proofs.lemmas.Option.{slice_get-get_or}
use Rattle.rich_types.specs.Scopes.{scope_of}
use Rattle.rich_rules.specs.Points.{Becomes}
use Rattle.rich_rules.specs.Takers.{unr_unit}
use Rattle.rw_operand_stack.specs.Operands.{Operands}
use Rattle.rw_local_rows.proofs.Places.{takes_local}
use Rattle.rw_local_rows.proofs.locals.take_local_take.Goals as goal

pub returns-clause-row : goal.returns-clause-row
returns-clause-row c =
    (Some (Becomes c.args.n unr_unit), takes_local (scope_of c.args.c.now.binders) c.args.locals.now c.args.n (get_or c.args.locals.now c.args.n c.index-locals-at.result) c.replace-value.result c.args.s.now.operands c.store.new.self.operands (slice_get-get_or c.args.locals.now c.args.n c.index-locals-at.result (omega (arith, c.if-at-locals.false))) (sym c.is_unr.ensures ∙ c.if-is_unr.false) (slice_get-get_or c.args.locals.now c.args.n c.index-locals-at-2.result (omega (arith, c.if-at-locals.false)) ∙ ap (λ (t : Ty). Some t) (sym c.replace-value.ensures.value)) (ap (λ (s : Operands). s.operands) c.in_ok-store.ensures.ok), ap (λ (t : Ty). slice_set c.args.locals.now c.args.n t) c.replace-value.ensures.after)
