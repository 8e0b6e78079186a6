use Rattle.std.proofs.Common.{refl}
use Rattle.std.specs.Prelude.{codes}
use Rattle.rich_text.specs.Forms.{instruction_form}
use Rattle.rw_parser.proofs.Composing.{first_fails, later_fails, one_gave, row_fails, row_gave}
use Rattle.rw_parser.proofs.Firsts.{handed}
use Rattle.rw_parser.specs.Reads.{behind_head}
use Rattle.rw_plain_forms.proofs.plain.read_fold.Goals as goal

pub returns-in_err-ty : goal.returns-in_err-ty
returns-in_err-ty c = handed (behind_head instruction_form (codes "rec.fold")) 1 _ _ c.from_residual.result _ c.from_residual.ensures.1 (row_fails refl (first_fails c.in_err-ty.ensures))

pub returns-in_err-close : goal.returns-in_err-close
returns-in_err-close c = handed (behind_head instruction_form (codes "rec.fold")) 1 _ _ c.from_residual-in_err-close.result _ c.from_residual-in_err-close.ensures.1 (row_fails refl (later_fails c.in_ok-ty.ensures c.in_err-close.ensures))

pub returns : goal.returns
returns c = row_gave refl (one_gave c.in_ok-ty.ensures c.in_ok-close.ensures)
