use Rattle.std.proofs.Common.{refl}
use Rattle.std.specs.Prelude.{codes}
use Rattle.rich_text.specs.Forms.{instruction_form}
use Rattle.rw_parser.proofs.Composing.{first_fails, later_fails, one_gave, row_fails, row_gave}
use Rattle.rw_parser.proofs.Firsts.{handed}
use Rattle.rw_parser.specs.Reads.{behind_head}
use Rattle.rw_plain_forms.proofs.plain.read_call.Goals as goal

pub returns-in_err-function : goal.returns-in_err-function
returns-in_err-function c = handed (behind_head instruction_form (codes "call")) 1 _ _ c.from_residual.result _ c.from_residual.ensures.1 (row_fails refl (first_fails c.in_err-function.ensures))

pub returns-in_err-arguments : goal.returns-in_err-arguments
returns-in_err-arguments c = handed (behind_head instruction_form (codes "call")) 1 _ _ c.from_residual-in_err-arguments.result _ c.from_residual-in_err-arguments.ensures.1 (row_fails refl (later_fails c.in_ok-function.ensures c.in_err-arguments.ensures))

pub returns : goal.returns
returns c = row_gave refl (one_gave c.in_ok-function.ensures c.in_ok-arguments.ensures)
