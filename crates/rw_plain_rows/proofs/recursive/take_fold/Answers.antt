-- The demand is the body with the type put in.
use Rattle.std.proofs.Common.{◌∙◌, [], ◌∷◌, None, ap, sym}
use Rattle.std.proofs.Math.Path.{subst⁻¹}
use Rattle.rw_types.specs.declared.types.Arg.TheVariants.{Given}
use Rattle.rw_types.specs.declared.types.Ty.{Ty}
use Rattle.rich_types.specs.Instances.{instance}
use Rattle.rich_types.specs.Scopes.{scope_of}
use Rattle.rich_rules.specs.Points.{Outcome, Gives}
use Rattle.rw_operand_stack.specs.Operands.{types_of}
use Rattle.rw_struct_looks.specs.Takes.{Allows}
use Rattle.rw_plain_rows.proofs.Folds.{folded}
use Rattle.rw_plain_rows.proofs.recursive.take_fold.Goals as goal

pub returns-clause-row : goal.returns-clause-row
returns-clause-row c =
    subst⁻¹ (λ (out : Outcome). Allows c.take_these.result out (Gives (types_of c.take_these.new.s.operands) None))
    (folded (scope_of c.args.c.now.binders) _ _ c.args.t.now _ c.in_ok-unfolded.field-0 c.in_ok-copy.field-0 (types_of c.args.s.now.operands) c.in-Rec.is (sym c.is_formed.ensures ∙ c.if-not-is_formed.false) (c.in_ok-unfolded.ensures ∙ ap (λ (b : Ty). instance b (Given c.args.t.now ∷ [])) c.get.ensures) c.in_ok-copy.ensures)
    c.take_these.ensures.row
