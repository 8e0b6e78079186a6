use Rattle.std.proofs.Common.{refl}
use Rattle.std.specs.Prelude.{codes}
use Rattle.rich_text.specs.Forms.{function_form}
use Rattle.rw_parser.specs.Reads.{behind_head}
use Rattle.rw_parser.proofs.Composing.{first_fails, later_fails, one_gave, row_fails, row_gave}
use Rattle.rw_parser.proofs.Firsts.{handed}
use Rattle.rw_field_forms.proofs.fields.read_function.Goals as goal

pub returns-in_err-ty : goal.returns-in_err-ty
returns-in_err-ty c = handed (behind_head function_form (codes "func")) 1 _ _ c.from_residual.result _ c.from_residual.ensures.1 (row_fails refl (first_fails c.in_err-ty.ensures))

pub returns-in_err-locals : goal.returns-in_err-locals
returns-in_err-locals c =
    handed (behind_head function_form (codes "func")) 1 _ _ c.from_residual-in_err-locals.result _ c.from_residual-in_err-locals.ensures.1 (row_fails refl (later_fails c.in_ok-ty.ensures (first_fails c.in_err-locals.ensures)))

pub returns-in_err-body : goal.returns-in_err-body
returns-in_err-body c =
    handed (behind_head function_form (codes "func")) 1 _ _ c.from_residual-in_err-body.result _ c.from_residual-in_err-body.ensures.1
    (row_fails refl (later_fails c.in_ok-ty.ensures (later_fails c.in_ok-locals.ensures c.in_err-body.ensures)))

pub returns : goal.returns
returns c = row_gave refl (one_gave c.in_ok-ty.ensures (one_gave c.in_ok-locals.ensures c.in_ok-body.ensures))
