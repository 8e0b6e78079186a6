use Rattle.std.proofs.Common.{refl}
use Rattle.std.specs.Prelude.{codes}
use Rattle.rich_text.specs.Forms.{instruction_form}
use Rattle.rw_parser.proofs.Composing.{row_fails, row_gave}
use Rattle.rw_parser.proofs.Firsts.{handed}
use Rattle.rw_parser.specs.Reads.{behind_head}
use Rattle.rw_plain_forms.proofs.plain.read_instantiation.Goals as goal

pub returns-in_err-arguments : goal.returns-in_err-arguments
returns-in_err-arguments c = handed (behind_head instruction_form (codes "inst")) 1 _ _ c.from_residual.result _ c.from_residual.ensures.1 (row_fails refl c.in_err-arguments.ensures)

pub returns : goal.returns
returns c = row_gave refl c.in_ok-arguments.ensures
