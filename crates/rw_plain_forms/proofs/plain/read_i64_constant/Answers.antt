use Rattle.std.proofs.Common.{refl}
use Rattle.std.specs.Prelude.{codes}
use Rattle.rich_text.specs.Forms.{instruction_form}
use Rattle.rw_parser.proofs.Composing.{row_fails, row_gave}
use Rattle.rw_parser.proofs.Firsts.{handed}
use Rattle.rw_parser.specs.Reads.{behind_head}
use Rattle.rw_plain_forms.proofs.plain.read_i64_constant.Goals as goal

pub returns-in_err-value : goal.returns-in_err-value
returns-in_err-value c = handed (behind_head instruction_form (codes "i64.const")) 1 _ _ c.from_residual.result _ c.from_residual.ensures.1 (row_fails refl c.in_err-value.ensures.reads)

pub returns : goal.returns
returns c = row_gave refl c.in_ok-value.ensures.reads
