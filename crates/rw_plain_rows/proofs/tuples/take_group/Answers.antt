-- The parts are the last ones of the slice.
use Rattle.std.proofs.Common.{◌∙◌, ◌-◌, [], ◌∷◌, Bool, Some, None, ap, sym, length, drop, arith}
use Rattle.std.proofs.Math.Path.{subst⁻¹}
use Rattle.rw_types.specs.declared.types.Pre.TheVariants.{Tuple}
use Rattle.rw_types.specs.declared.types.Ty.{Ty, Of}
use Rattle.rich_types.specs.Scopes.{scope_of}
use Rattle.rich_typing.specs.declared.rules.Rule.TheVariants as rule
use Rattle.rich_rules.specs.Takers.{need, gives}
use Rattle.rw_row_answers.specs.Answers.{Breaking}
use Rattle.rw_operand_stack.specs.Operands.{Operands, types_of}
use Rattle.rw_demands.proofs.Tails.{take_rest}
use Rattle.rw_plain_rows.proofs.Parts.{too_few_parts, grouped, stored}
use Rattle.rw_plain_rows.proofs.tuples.take_group.Goals as goal

pub returns-then-operands-count-clause-row : goal.returns-then-operands-count-clause-row
returns-then-operands-count-clause-row c = subst⁻¹ (Breaking c.bare.result) (too_few_parts (scope_of c.args.c.now.binders) c.args.qual c.as_slice-operands.result.now c.args.s.now.operands c.as_slice-operands.ensures c.args.count c.if-operands-count.true) c.bare.ensures

pub returns-then-not-is_formed-clause-row : goal.returns-then-not-is_formed-clause-row
returns-then-not-is_formed-clause-row c =
    let tuple : Ty = Of c.args.qual (Tuple c.in_ok-parts.parts) in
    grouped (scope_of c.args.c.now.binders) c.args.qual c.as_slice-operands.result.now c.args.s.now.operands c.as_slice-operands.ensures c.args.count _ (take_rest (length c.as_slice-operands.result.now - c.args.count) c.as_slice-operands.result.now) (omega (arith, c.if-operands-count.false)) c.in_ok-parts.parts c.in_ok-parts.ensures
    ∙ ap (λ (b : Bool). need b rule.TypeForm (Some tuple) None (gives (tuple ∷ []) (drop c.args.count (types_of c.args.s.now.operands)))) (sym c.is_formed.ensures ∙ c.if-not-is_formed.true)

pub returns-clause-row : goal.returns-clause-row
returns-clause-row c =
    let tuple : Ty = Of c.args.qual (Tuple c.in_ok-parts.parts) in
    grouped (scope_of c.args.c.now.binders) c.args.qual c.as_slice-operands.result.now c.args.s.now.operands c.as_slice-operands.ensures c.args.count _ (take_rest (length c.as_slice-operands.result.now - c.args.count) c.as_slice-operands.result.now) (omega (arith, c.if-operands-count.false)) c.in_ok-parts.parts c.in_ok-parts.ensures
    ∙ ap (λ (b : Bool). need b rule.TypeForm (Some tuple) None (gives (tuple ∷ []) (drop c.args.count (types_of c.args.s.now.operands)))) (sym c.is_formed.ensures ∙ c.if-not-is_formed.false)
    ∙ stored (scope_of c.args.c.now.binders) tuple c.args.count c.args.s.now.operands c.take_off.new.s.operands c.store.new.self.operands c.take_off.ensures.operands (ap (λ (s : Operands). s.operands) c.in_ok-store.ensures.ok)
