use Rattle.std.proofs.Common.{refl}
use Rattle.std.specs.Prelude.{codes}
use Rattle.rich_text.specs.Forms.{global_form}
use Rattle.rw_parser.specs.Reads.{behind_head}
use Rattle.rw_parser.proofs.Composing.{first_fails, later_fails, one_gave, row_fails, row_gave}
use Rattle.rw_parser.proofs.Firsts.{handed}
use Rattle.rw_field_forms.proofs.fields.read_global.Goals as goal

pub returns-in_err-mutable : goal.returns-in_err-mutable
returns-in_err-mutable c = handed (behind_head global_form (codes "global")) 1 _ _ c.from_residual.result _ c.from_residual.ensures.1 (row_fails refl (first_fails c.in_err-mutable.ensures))

pub returns-in_err-ty : goal.returns-in_err-ty
returns-in_err-ty c =
    handed (behind_head global_form (codes "global")) 1 _ _ c.from_residual-in_err-ty.result _ c.from_residual-in_err-ty.ensures.1 (row_fails refl (later_fails c.in_ok-mutable.ensures (first_fails c.in_err-ty.ensures)))

pub returns-in_err-body : goal.returns-in_err-body
returns-in_err-body c =
    handed (behind_head global_form (codes "global")) 1 _ _ c.from_residual-in_err-body.result _ c.from_residual-in_err-body.ensures.1
    (row_fails refl (later_fails c.in_ok-mutable.ensures (later_fails c.in_ok-ty.ensures c.in_err-body.ensures)))

pub returns : goal.returns
returns c = row_gave refl (one_gave c.in_ok-mutable.ensures (one_gave c.in_ok-ty.ensures c.in_ok-body.ensures))
