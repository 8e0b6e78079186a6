use Rattle.std.proofs.Common.{refl}
use Rattle.std.specs.Prelude.{codes}
use Rattle.rich_text.specs.Forms.{argument_form}
use Rattle.rw_parser.proofs.Composing.{row_fails, row_gave}
use Rattle.rw_parser.proofs.Firsts.{handed}
use Rattle.rw_parser.specs.Reads.{behind_head}
use Rattle.rw_plain_forms.proofs.arguments.location_argument.Goals as goal

pub returns-in_err-location : goal.returns-in_err-location
returns-in_err-location c = handed (behind_head argument_form (codes "loc")) 1 _ _ c.from_residual.result _ c.from_residual.ensures.1 (row_fails refl c.in_err-location.ensures)

pub returns : goal.returns
returns c = row_gave refl c.in_ok-location.ensures
